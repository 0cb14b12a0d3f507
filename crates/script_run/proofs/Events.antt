-- The events of parts that are made in pieces, and their text.
use Rattle.std.proofs.Common.{◌≡◌, ℕ, zero, suc, ◌+◌, ◌≤◌, ◌<◌, Bool, true, false, List, [], ◌∷◌, ◌++◌, refl, sym, ap, ◌∙◌, cond, append_assoc, arith}
use Rattle.std.specs.Prelude.{◌==◌, ◌||◌}
use Rattle.std.specs.List.{AllByRecursion}
use Rattle.std.proofs.lemmas.Bool.Decides.{nat_tests}
use Rattle.rand_core.specs.Stream.{Stream}
use Rattle.live_commit.specs.declared.phase.Phase.{Phase}
use Rattle.live_commit.specs.declared.phase.Phase.TheVariants.{Idle, Clearing, Armed, Checking, Void, Due}
use Rattle.damon_core.specs.State.{State, row_count}
use Rattle.damon_core.specs.Event.{Event, touch, prepare, clear, load, observe, aggregate, commit, show, next_hit}
use Rattle.damon_core.specs.After.{after}
use Rattle.damon_world.specs.Moment.{along, event_in, events_of_steps, Moment, moved, next_event, stepped_times}
use Rattle.damon_world.specs.Advance.{IsAmid}
use Rattle.damon_world.specs.Touches.{touches}
use Rattle.snapshot_print.specs.Writing.{Writing}
use Rattle.script_run.specs.Callbacks.{AddInPlace, Callbacks, IsAlone, IsQuiet, IsStep, put_after}
use Rattle.script_run.specs.Course.{Course, course_after, going_with, with_puts}
use Rattle.script_run.specs.Going.{onward}
use Rattle.script_run.proofs.Continuing.{onward-append}
use Rattle.script_run.specs.Report.{event_text, events_text}
use Rattle.script_run.specs.RunWith.{lines_after, text_from}
use Rattle.script_run.specs.Unfold.{steps_until, stops_at}
use Rattle.script_run.specs.Part.{Part}
use Rattle.script_run.specs.Part as part
use Rattle.script_run.specs.declared.part.Until.{Until}
use Rattle.script_run.specs.declared.part.Until.TheVariants as until
use Rattle.script_run.specs.Kept.{beyond}
use Rattle.script_run.specs.Parts.{is_done, part_events, parts_events}

-- ---- steps that are no aggregation

-- nothing is put in after a step
alone_step : (e : Event) → IsStep e → IsAlone e
alone_step (touch page) step = tt
alone_step (prepare words) step = tt
alone_step clear step = tt
alone_step (load h) step = tt
alone_step observe step = tt
alone_step (aggregate words) step = step
alone_step (commit parts) step = step
alone_step show step = tt

-- nothing is written after a step
quiet_step : (e : Event) → IsStep e → IsQuiet e
quiet_step (touch page) step = tt
quiet_step (prepare words) step = tt
quiet_step clear step = tt
quiet_step (load h) step = tt
quiet_step observe step = tt
quiet_step (aggregate words) step = step
quiet_step (commit parts) step = tt
quiet_step show step = tt

-- a step writes nothing
silent_step : (writing : Writing) (s : State) (e : Event) → IsStep e → event_text writing s e ≡ []
silent_step writing s (touch page) step = absurd step
silent_step writing s (prepare words) step = refl
silent_step writing s clear step = refl
silent_step writing s (load h) step = refl
silent_step writing s observe step = refl
silent_step writing s (aggregate words) step = absurd step
silent_step writing s (commit parts) step = absurd step
silent_step writing s show step = absurd step

step_choice : (b : Bool) (s : State) → IsStep (cond b observe (load (next_hit s)))
step_choice true s = tt
step_choice false s = tt

-- the next step where no aggregation is due
step_in : (ph : Phase) (s : State) (t : Stream) → (ph ≡ Due → ⊥) → IsStep (event_in ph s t)
step_in Idle s t early = tt
step_in (Clearing k) s t early = tt
step_in Armed s t early = tt
step_in (Checking k) s t early = step_choice (k == row_count s.core) s
step_in Void s t early = tt
step_in Due s t early = absurd (early refl)

-- no aggregation is due amid a pass
amid_is_early : (ph : Phase) → IsAmid ph → ph ≡ Due → ⊥
amid_is_early (Clearing k) amid due = absurd (cc due)
amid_is_early (Checking k) amid due = absurd (cc due)
amid_is_early Idle amid due = absurd amid
amid_is_early Armed amid due = absurd amid
amid_is_early Void amid due = absurd amid
amid_is_early Due amid due = absurd amid

-- no aggregation is due at the next n moments
abbrev pub NoneDue : ℕ → Moment → Type 0
NoneDue n m = (k : ℕ) → k < n → (stepped_times k m).state.core.phase ≡ Due → ⊥

-- steps of a kind, where no aggregation is due
pub none_due : (n : ℕ) (m : Moment) → (m.state.core.phase ≡ Due → ⊥) → ((k : ℕ) → 1 ≤ k → k < n → IsAmid (stepped_times k m).state.core.phase)
    → NoneDue n m
none_due n m early amid zero below = early
none_due n m early amid (suc k) below = amid_is_early (stepped_times (suc k) m).state.core.phase (amid (suc k) (omega arith) below)

pub all_steps : (n : ℕ) (m : Moment) → NoneDue n m → AllByRecursion IsStep (events_of_steps n m)
all_steps zero m early = tt
all_steps (suc n) m early =
    (step_in m.state.core.phase m.state m.stream (early 0 (omega arith)), all_steps n (moved m (next_event m.state m.stream)) (λ k below. early (suc k) (omega (arith, below))))

-- touches draw no random words
pub along-touches : (m : Moment) (page n : ℕ) → (along m (touches page n)).stream ≡ m.stream
along-touches m page zero = refl
along-touches m page (suc n) = along-touches (moved m (touch page)) (page + 1) n

-- touches and steps that are no aggregation are alone
pub touches_alone : (page n : ℕ) → AllByRecursion IsAlone (touches page n)
touches_alone page zero = tt
touches_alone page (suc n) = (tt, touches_alone (page + 1) n)

pub steps_alone : (es : List Event) → AllByRecursion IsStep es → AllByRecursion IsAlone es
steps_alone [] steps = tt
steps_alone (e ∷ es) steps = (alone_step e steps.0, steps_alone es steps.1)

-- the next step, which does not stop
pub steps_until-due : (c : Callbacks) (u : Until) (n : ℕ) (r : Course) → stops_at u r.moment.state.core.phase ≡ false
    → (let e = next_event r.moment.state r.moment.stream in steps_until (going_with c) u (suc n) r ≡ e ∷ steps_until (going_with c) u n (course_after c r e))
steps_until-due c u n r here =
    let e = next_event r.moment.state r.moment.stream in
    ap (λ b. cond b [] (e ∷ steps_until (going_with c) u n (course_after c r e))) here

-- ---- events after which callbacks remember and add nothing

-- a moment with what is remembered
abbrev course_of : Moment → List ℕ → Course
course_of m memory = record { moment = m; memory = memory }

module _ (c : Callbacks) (in_place : AddInPlace c) where
  nothing_put : (r : Course) (e : Event) → IsAlone e → put_after c r.memory r.moment.state e ≡ []
  nothing_put r e alone = in_place.puts (c.keeps r.memory r.moment.state e) r.moment.state e alone

  alone_after : (r : Course) (e : Event) → IsAlone e → course_after c r e ≡ beyond r (e ∷ [])
  alone_after r e alone =
      ap (λ (ps : List Event). course_of (along r.moment (e ∷ ps)) (c.keeps r.memory r.moment.state e)) (nothing_put r e alone)
      ∙ ap (λ (memory : List ℕ). course_of (along r.moment (e ∷ [])) memory) (in_place.keeps r.memory r.moment.state e alone)

  pub alone_onward : (r : Course) (es : List Event) → AllByRecursion IsAlone es → onward (going_with c) r es ≡ beyond r es
  alone_onward r [] alone = refl
  alone_onward r (e ∷ es) alone = ap (λ q. onward (going_with c) q es) (alone_after r e alone.0) ∙ alone_onward (beyond r (e ∷ [])) es alone.1

  pub alone_puts : (r : Course) (es : List Event) → AllByRecursion IsAlone es → with_puts c r es ≡ es
  alone_puts r [] alone = refl
  alone_puts r (e ∷ es) alone =
      ap (λ (ps : List Event). e ∷ (ps ++ with_puts c (course_after c r e) es)) (nothing_put r e alone.0)
      ∙ ap (λ fs. e ∷ fs) (alone_puts (course_after c r e) es alone.1)

  -- nothing is written where neither the event nor callbacks write
  silent : (writing : Writing) (r : Course) (e : Event) (rest : List ℕ) → event_text writing r.moment.state e ≡ [] → IsQuiet e → IsAlone e
      → (let s = r.moment.state in
      event_text writing s e ++ (lines_after c r e ++ (events_text writing (after s e) (put_after c r.memory s e) ++ rest)) ≡ rest)
  silent writing r e rest none quiet alone =
      let s = r.moment.state in
      let more = events_text writing (after s e) (put_after c r.memory s e) ++ rest in
      ap (λ t. t ++ (lines_after c r e ++ more)) none
      ∙ ap (λ t. t ++ more) (in_place.writes (c.keeps r.memory s e) (after s e) e quiet)
      ∙ ap (λ ps. events_text writing (after s e) ps ++ rest) (nothing_put r e alone)

  -- steps write nothing, where no aggregation is due
  pub text_from-steps : (writing : Writing) (r : Course) (es : List Event) → AllByRecursion IsStep es → text_from c writing r es ≡ []
  text_from-steps writing r [] steps = refl
  text_from-steps writing r (e ∷ es) steps =
      silent writing r e (text_from c writing (course_after c r e) es) (silent_step writing r.moment.state e steps.0) (quiet_step e steps.0) (alone_step e steps.0)
      ∙ text_from-steps writing (course_after c r e) es steps.1

  -- touches write nothing
  pub text_from-touches : (writing : Writing) (r : Course) (page n : ℕ) → text_from c writing r (touches page n) ≡ []
  text_from-touches writing r page zero = refl
  text_from-touches writing r page (suc n) =
      let q = course_after c r (touch page) in
      silent writing r (touch page) (text_from c writing q (touches (page + 1) n)) refl tt tt
      ∙ text_from-touches writing q (page + 1) n

  -- steps that do not stop and are no aggregation, and those after them
  pub steps_until-split : (u : Until) (n rest : ℕ) (r : Course) → NoneDue n r.moment
      → ((k : ℕ) → k < n → stops_at u (stepped_times k r.moment).state.core.phase ≡ false)
      → (let es = events_of_steps n r.moment in steps_until (going_with c) u (n + rest) r ≡ es ++ steps_until (going_with c) u rest (beyond r es))
  steps_until-split u zero rest r early going = let same : 0 + rest ≡ rest = omega arith in ap (λ i. steps_until (going_with c) u i r) same
  steps_until-split u (suc n) rest r early going =
      let m = r.moment in
      let e = next_event m.state m.stream in
      let index : suc n + rest ≡ suc (n + rest) = omega arith in
      let here : stops_at u m.state.core.phase ≡ false = going 0 (omega arith) in
      let step = step_in m.state.core.phase m.state m.stream (early 0 (omega arith)) in
      ap (λ i. steps_until (going_with c) u i r) index
      ∙ steps_until-due c u (n + rest) r here
      ∙ ap (λ q. e ∷ steps_until (going_with c) u (n + rest) q) (alone_after r e (alone_step e step))
      ∙ ap (λ es. e ∷ es) (steps_until-split u n rest (beyond r (e ∷ []))
      (λ k below. early (suc k) (omega (arith, below))) (λ k below. going (suc k) (omega (arith, below))))

-- ---- where steps stop

-- steps do not stop amid a pass
amid_goes_on : (u : Until) (ph : Phase) → IsAmid ph → stops_at u ph ≡ false
amid_goes_on until.Count ph amid = refl
amid_goes_on until.Armed (Clearing k) amid = refl
amid_goes_on until.Idle (Clearing k) amid = refl
amid_goes_on until.Armed (Checking k) amid = refl
amid_goes_on until.Idle (Checking k) amid = refl
amid_goes_on until.Armed Idle amid = absurd amid
amid_goes_on until.Armed Armed amid = absurd amid
amid_goes_on until.Armed Void amid = absurd amid
amid_goes_on until.Armed Due amid = absurd amid
amid_goes_on until.Idle Idle amid = absurd amid
amid_goes_on until.Idle Armed amid = absurd amid
amid_goes_on until.Idle Void amid = absurd amid
amid_goes_on until.Idle Due amid = absurd amid

-- where the first step does not stop and those after it are amid a pass, none stops
pub none_stops : (u : Until) (n : ℕ) (m : Moment) → stops_at u m.state.core.phase ≡ false
    → ((k : ℕ) → 1 ≤ k → k < n → IsAmid (stepped_times k m).state.core.phase)
    → (k : ℕ) → k < n → stops_at u (stepped_times k m).state.core.phase ≡ false
none_stops u n m here amid zero below = here
none_stops u n m here amid (suc k) below = amid_goes_on u (stepped_times (suc k) m).state.core.phase (amid (suc k) (omega arith) below)

-- ---- parts

pub suc_not_zero : (n : ℕ) → (suc n == 0) ≡ false
suc_not_zero n = grind (arith, nat_tests)

none_touched : (page n : ℕ) → (n == 0) ≡ true → touches page n ≡ []
none_touched page zero done = refl
none_touched page (suc n) done = absurd (cc (done, suc_not_zero n))

none_stepped : (c : Callbacks) (u : Until) (n : ℕ) (r : Course) → ((n == 0) || stops_at u r.moment.state.core.phase) ≡ true → steps_until (going_with c) u n r ≡ []
none_stepped c u zero r done = refl
none_stepped c u (suc n) r done =
    let ph = r.moment.state.core.phase in
    let here : stops_at u ph ≡ true = ap (λ b. b || stops_at u ph) (sym (suc_not_zero n)) ∙ done in
    let e = next_event r.moment.state r.moment.stream in
    ap (λ b. cond b [] (e ∷ steps_until (going_with c) u n (course_after c r e))) here

-- a part of which nothing is left has no event
done_is_none : (c : Callbacks) (r : Course) (p : Part) → is_done p r.moment.state.core.phase ≡ true → part_events (going_with c) r p ≡ []
done_is_none c r (part.Touches page count) done = none_touched page count done
done_is_none c r (part.Steps until most) done = none_stepped c until most r done
done_is_none c r part.Show done = absurd (cc done)
done_is_none c r (part.Commit parts) done = absurd (cc done)

-- a part of which nothing is left is left out
pub parts_events-done : (c : Callbacks) (r : Course) (p : Part) (ps : List Part) → is_done p r.moment.state.core.phase ≡ true → parts_events (going_with c) r (p ∷ ps) ≡ parts_events (going_with c) r ps
parts_events-done c r p ps done = ap (λ (es : List Event). es ++ parts_events (going_with c) (onward (going_with c) r es) ps) (done_is_none c r p done)

-- after the first events of a part the rest of it is left
pub parts_events-made : (c : Callbacks) (r : Course) (made : List Event) (p q : Part) (ps : List Part) → part_events (going_with c) r p ≡ made ++ part_events (going_with c) (onward (going_with c) r made) q
    → parts_events (going_with c) r (p ∷ ps) ≡ made ++ parts_events (going_with c) (onward (going_with c) r made) (q ∷ ps)
parts_events-made c r made p q ps is =
    let x = onward (going_with c) r made in
    let rest = part_events (going_with c) x q in
    ap (λ (es : List Event). es ++ parts_events (going_with c) (onward (going_with c) r es) ps) is
    ∙ ap (λ (y : Course). (made ++ rest) ++ parts_events (going_with c) y ps) (onward-append (going_with c) r made rest)
    ∙ append_assoc made rest (parts_events (going_with c) (onward (going_with c) x rest) ps)
