-- The events of parts fit.
use Rattle.std.proofs.Common.{◌≡◌, ℕ, zero, suc, ◌+◌, ◌*◌, ◌<◌, ◌≤◌, Bool, true, false, List, [], ◌∷◌, ◌++◌, refl, sym, ap, ◌∙◌, subst, cond, arith, length, Ok, Err, Option, Some, None}
use Rattle.std.specs.Prelude.{◌==◌, Result}
use Rattle.std.specs.Option.{unwrap_or}
use Rattle.std.proofs.lemmas.Bool.Decides.{nat_tests}
use Rattle.rand_core.specs.Stream.{Stream, next_u32}
use Rattle.damon_types.specs.declared.range.RangeSpec.{RangeSpec}
use Rattle.damon_types.specs.declared.space.Target.{Target}
use Rattle.damon_types.specs.Space.{pages_of}
use Rattle.region_list.specs.Regions.{RegionList}
use Rattle.live_commit.specs.declared.fault.CommitFault.{CommitFault}
use Rattle.live_commit.specs.declared.phase.Phase.{Phase}
use Rattle.live_commit.specs.declared.phase.Phase.TheVariants.{Idle, Clearing, Armed, Checking, Void, Due}
use Rattle.live_commit.specs.Commit.{CommitValue}
use Rattle.damon_core.specs.Commit.{check_of, committed, if_accepted, regions_after}
use Rattle.damon_core.specs.State.{State, opening, row_count}
use Rattle.damon_core.specs.Event.{ByHit, Event, Fits, IsClearing, IsLoading, IsObserving, touch, prepare, clear, load, observe, aggregate, commit, show, next_hit}
use Rattle.damon_core.specs.After.{after, by_clear, by_load, by_observe}
use Rattle.damon_core.specs.Bound.{Bound}
use Rattle.damon_core.specs.Choosing.{ServesBest}
use Rattle.damon_core.specs.InPhase.{IsInPhase}
use Rattle.damon_core.specs.Pass.{IsPickWithin}
use Rattle.damon_core.proofs.Lemmas.{AllByHit-append, AllFit-append}
use Rattle.damon_core.specs.Reached.{AllByHit, AllFit, CanOpen, Reached, ReachedByHit, run}
use Rattle.sampler.specs.Draws.{drawn}
use Rattle.damon_world.specs.Moment.{Moment, along, event_in, moved, next_event}
use Rattle.damon_world.proofs.Lemmas.{Reached-along, along-state}
use Rattle.damon_world.specs.Touches.{touches}
use Rattle.damon_world.proofs.Lemmas.{by_hit-in}
use Rattle.script_lines.specs.Command.{CommandValue, Touch, Sweep, Step, Arm, Finish, Show, Commit}
use Rattle.script_run.specs.Part.{Part}
use Rattle.script_run.specs.Part as part
use Rattle.script_run.specs.declared.part.Until.{Until}
use Rattle.damon_control.specs.Script.{ScriptValue}
use Rattle.damon_control.specs.Sound.{IsSound}
use Rattle.script_run.specs.BoundAlong.{EachRunWithCallbacksIsBound}
use Rattle.script_run.specs.Callbacks.{Callbacks, FitAlways, FitByHit, no_callbacks, put_after}
use Rattle.script_run.specs.Choices.{EachRunWithCallbacksChoosesBest}
use Rattle.script_run.specs.Course.{Course, course_after, going_with, with_puts}
use Rattle.script_run.proofs.Continuing.{onward-moment, onward-state, Reached-onward, with_puts-append}
use Rattle.script_run.specs.Going.{onward}
use Rattle.script_run.specs.RunWith.{start_with, unfold_with}
use Rattle.script_run.specs.Unfold.{steps_until, stops_at}
use Rattle.script_run.specs.Kept.{ArePartsWithin, IsPartWithin}
use Rattle.script_run.specs.Parts.{part_events, part_of, parts_events, parts_of}
use Rattle.script_run.proofs.Continuing.{commands_are_parts}
use Rattle.script_lines.specs.Limits.{AreCommandsWithin, IsCommandWithin}
use Rattle.script_run.proofs.Ways.{Reached-start}
use Rattle.script_run.proofs.Hits.{AllByHit-prefix}

length-drawn : (n : ℕ) (s : Stream) → length (drawn n s) ≡ n
length-drawn zero s = refl
length-drawn (suc n) s = ap suc (length-drawn n (next_u32 s).1)

-- ---- steps

fits_check : (b : Bool) (k : ℕ) (s : State) → s.core.phase ≡ Checking k → k ≤ row_count s.core → (k == row_count s.core) ≡ b → Fits s (cond b observe (load (next_hit s)))
fits_check true k s is within same =
    let all : k ≡ row_count s.core = grind (arith, nat_tests) in
    subst (λ ph. IsObserving ph (row_count s.core)) (sym is) all
fits_check false k s is within same =
    let below : k < row_count s.core = grind (arith, nat_tests) in
    subst (λ ph. IsLoading ph (row_count s.core)) (sym is) below

-- the event of the next step fits
pub next_fits : (ph : Phase) (s : State) (t : Stream) → s.core.phase ≡ ph → IsInPhase s → Fits s (event_in ph s t)
next_fits Idle s t is within = (is, length-drawn (row_count s.core) t)
next_fits (Clearing k) s t is within = subst IsClearing (sym is) tt
next_fits Armed s t is within = subst (λ ph. IsLoading ph (row_count s.core)) (sym is) tt
next_fits (Checking k) s t is within = fits_check (k == row_count s.core) k s is (subst (λ ph. IsPickWithin ph (row_count s.core)) is within.pick) refl
next_fits Void s t is within = subst (λ ph. IsObserving ph (row_count s.core)) (sym is) tt
next_fits Due s t is within = (is, length-drawn (2 * s.core.attrs.max) t)

-- ---- events with what is put in after them

FitByHit-append : (s : State) (es fs : List Event) → FitByHit s es → FitByHit (run s es) fs → FitByHit s (es ++ fs)
FitByHit-append s es fs first then = record {
  fit = AllFit-append s es fs first.fit then.fit;
  by_hit = AllByHit-append s es fs first.by_hit then.by_hit;
}

-- callbacks that put nothing in
pub nothing_fits : FitAlways no_callbacks
nothing_fits memory s e reached fits = record { fit = tt; by_hit = tt }

-- ---- no event changes the space and the cap

-- the space and the cap of a state
abbrev fixed : State → (List Target × ℕ)
fixed s = (s.core.space, s.core.regions.cap)

by_clear-fixed : (ph : Phase) (s : State) → fixed (by_clear ph s) ≡ fixed s
by_clear-fixed Idle s = refl
by_clear-fixed (Clearing k) s = refl
by_clear-fixed Armed s = refl
by_clear-fixed (Checking k) s = refl
by_clear-fixed Void s = refl
by_clear-fixed Due s = refl

by_load-fixed : (ph : Phase) (h : Bool) (s : State) → fixed (by_load ph h s) ≡ fixed s
by_load-fixed Idle h s = refl
by_load-fixed (Clearing k) h s = refl
by_load-fixed Armed h s = refl
by_load-fixed (Checking k) h s = refl
by_load-fixed Void h s = refl
by_load-fixed Due h s = refl

by_observe-fixed : (ph : Phase) (s : State) → fixed (by_observe ph s) ≡ fixed s
by_observe-fixed Idle s = refl
by_observe-fixed (Clearing k) s = refl
by_observe-fixed Armed s = refl
by_observe-fixed (Checking k) s = refl
by_observe-fixed Void s = refl
by_observe-fixed Due s = refl

regions-cap : (space : List Target) (specs : Option (List RangeSpec)) (most : ℕ) (r : RegionList) → (regions_after space specs most r).cap ≡ r.cap
regions-cap space None most r = refl
regions-cap space (Some specs) most r = refl

by_commit-fixed : (checked : Result (Unit {0}) CommitFault) (c : CommitValue) (s : State) → fixed (if_accepted checked (committed c s) s) ≡ fixed s
by_commit-fixed (Ok t) c s = ap (λ (n : ℕ). (s.core.space, n)) (regions-cap s.core.space c.ranges (unwrap_or c.attrs s.core.attrs).max s.core.regions)
by_commit-fixed (Err fault) c s = refl

after-fixed : (s : State) (e : Event) → fixed (after s e) ≡ fixed s
after-fixed s (touch page) = refl
after-fixed s (prepare words) = refl
after-fixed s clear = by_clear-fixed s.core.phase s
after-fixed s (load h) = by_load-fixed s.core.phase h s
after-fixed s observe = by_observe-fixed s.core.phase s
after-fixed s (aggregate words) = refl
after-fixed s (commit parts) = by_commit-fixed (check_of parts s.core) parts s
after-fixed s show = refl

along-space : (m : Moment) (es : List Event) → (along m es).state.core.space ≡ m.state.core.space
along-space m [] = refl
along-space m (e ∷ es) = along-space (moved m e) es ∙ ap (λ (p : List Target × ℕ). p.0) (after-fixed m.state e)

pub after-cap : (s : State) (e : Event) → (after s e).core.regions.cap ≡ s.core.regions.cap
after-cap s e = ap (λ (p : List Target × ℕ). p.1) (after-fixed s e)

-- ---- parts

module _ (c : Callbacks) (always : FitAlways c) where
  -- the state after an event of the script and those that are put in after it is reached
  Reached-after : (r : Course) (e : Event) → Reached r.moment.state → Fits r.moment.state e → Reached (course_after c r e).moment.state
  Reached-after r e reached fits =
      let more = always r.memory r.moment.state e reached fits in
      Reached-along r.moment (e ∷ put_after c r.memory r.moment.state e) reached (fits, more.fit)

  -- an event of the script, those that are put in after it, and those that fit where they lead
  event_fits : (r : Course) (e : Event) (es : List Event) → Reached r.moment.state → Fits r.moment.state e → ByHit r.moment.state e
      → FitByHit (course_after c r e).moment.state (with_puts c (course_after c r e) es) → FitByHit r.moment.state (with_puts c r (e ∷ es))
  event_fits r e es reached fits hits rest =
      let s = r.moment.state in
      let ps = put_after c r.memory s e in
      let later = with_puts c (course_after c r e) es in
      let more = always r.memory s e reached fits in
      let all = FitByHit-append (after s e) ps later more (subst (λ t. FitByHit t later) (along-state r.moment (e ∷ ps)) rest) in
      record { fit = (fits, all.fit); by_hit = (hits, all.by_hit) }

  -- events of the script, and then those that fit where they lead
  events_fit : (r : Course) (es fs : List Event) → FitByHit r.moment.state (with_puts c r es)
      → FitByHit (onward (going_with c) r es).moment.state (with_puts c (onward (going_with c) r es) fs) → FitByHit r.moment.state (with_puts c r (es ++ fs))
  events_fit r es fs first rest =
      let later = with_puts c (onward (going_with c) r es) fs in
      subst (λ xs. FitByHit r.moment.state xs) (sym (with_puts-append c r es fs))
      (FitByHit-append r.moment.state (with_puts c r es) later first (subst (λ t. FitByHit t later) (onward-state c r es) rest))

  fit_unless : (b : Bool) (r : Course) (es : List Event) → FitByHit r.moment.state (with_puts c r es) → FitByHit r.moment.state (with_puts c r (cond b [] es))
  fit_unless true r es fit = record { fit = tt; by_hit = tt }
  fit_unless false r es fit = fit

  touches_fit : (r : Course) (page n : ℕ) → Reached r.moment.state → page + n ≤ pages_of r.moment.state.core.space → FitByHit r.moment.state (with_puts c r (touches page n))
  touches_fit r page zero reached within = record { fit = tt; by_hit = tt }
  touches_fit r page (suc n) reached within =
      let e = touch page in
      let s = r.moment.state in
      let q = course_after c r e in
      let here : page < pages_of s.core.space = omega (arith, within) in
      let same : pages_of q.moment.state.core.space ≡ pages_of s.core.space = ap pages_of (along-space r.moment (e ∷ put_after c r.memory s e)) in
      event_fits r e (touches (page + 1) n) reached here tt
      (touches_fit q (page + 1) n (Reached-after r e reached here) (omega (arith, within, same)))

  module _ (in_phase : (s : State) → Reached s → IsInPhase s) where
    steps_fit : (u : Until) (n : ℕ) (r : Course) → Reached r.moment.state → FitByHit r.moment.state (with_puts c r (steps_until (going_with c) u n r))
    steps_fit u zero r reached = record { fit = tt; by_hit = tt }
    steps_fit u (suc n) r reached =
        let m = r.moment in
        let e = next_event m.state m.stream in
        let q = course_after c r e in
        let fits = next_fits m.state.core.phase m.state m.stream refl (in_phase m.state reached) in
        fit_unless (stops_at u m.state.core.phase) r (e ∷ steps_until (going_with c) u n q)
        (event_fits r e (steps_until (going_with c) u n q) reached fits (by_hit-in m.state.core.phase m.state m.stream)
        (steps_fit u n q (Reached-after r e reached fits)))

    part_fits : (r : Course) (p : Part) → Reached r.moment.state → IsPartWithin (pages_of r.moment.state.core.space) p → FitByHit r.moment.state (with_puts c r (part_events (going_with c) r p))
    part_fits r (part.Touches page count) reached within = touches_fit r page count reached within
    part_fits r (part.Steps until most) reached within = steps_fit until most r reached
    part_fits r part.Show reached within = event_fits r show [] reached tt tt (record { fit = tt; by_hit = tt })
    part_fits r (part.Commit parts) reached within = event_fits r (commit parts) [] reached tt tt (record { fit = tt; by_hit = tt })

    parts_fit : (r : Course) (ps : List Part) → Reached r.moment.state → ArePartsWithin (pages_of r.moment.state.core.space) ps → FitByHit r.moment.state (with_puts c r (parts_events (going_with c) r ps))
    parts_fit r [] reached within = record { fit = tt; by_hit = tt }
    parts_fit r (p ∷ ps) reached within =
        let es = part_events (going_with c) r p in
        let q = onward (going_with c) r es in
        let first = part_fits r p reached within.0 in
        let space : q.moment.state.core.space ≡ r.moment.state.core.space =
        ap (λ (m : Moment). m.state.core.space) (onward-moment c r es) ∙ along-space r.moment (with_puts c r es) in
        events_fit r es (parts_events (going_with c) q ps) first
        (parts_fit q ps (Reached-onward c r es reached first.fit) (subst (λ sp. ArePartsWithin (pages_of sp) ps) (sym space) within.1))

pub part_within : (cap pages : ℕ) (c : CommandValue) → IsCommandWithin pages c → IsPartWithin pages (part_of cap c)
part_within cap pages (Touch page) within = omega (arith, within)
part_within cap pages (Sweep from to) within = omega (arith, within.0, within.1)
part_within cap pages (Step times) within = tt
part_within cap pages Arm within = tt
part_within cap pages Finish within = tt
part_within cap pages Show within = tt
part_within cap pages (Commit parts) within = tt

pub parts_within : (cap pages : ℕ) (cs : List CommandValue) → AreCommandsWithin pages cs → ArePartsWithin pages (parts_of cap cs)
parts_within cap pages [] within = tt
parts_within cap pages (c ∷ cs) within = (part_within cap pages c within.0, parts_within cap pages cs within.1)

-- ---- a prefix

AllFit-prefix : (s : State) (es fs : List Event) → AllFit s (es ++ fs) → AllFit s es
AllFit-prefix s [] fs fit = tt
AllFit-prefix s (e ∷ es) fs fit = (fit.0, AllFit-prefix (after s e) es fs fit.1)

can_open : (s : ScriptValue) → IsSound s → CanOpen s.setup
can_open s sound = record { space = sound.space; sound = sound.setup; order = sound.order }

-- the events of a script within its limits fit, with those that are put in, and their loads have the results of their pages
script_fits : (c : Callbacks) → FitAlways c → ((s : State) → Reached s → IsInPhase s) → (s : ScriptValue) (sound : IsSound s) → FitByHit (opening s.setup) (unfold_with c s)
script_fits c always in_phase s sound =
    let first = start_with c s in
    subst (λ es. FitByHit (opening s.setup) (with_puts c first es)) (sym (commands_are_parts (going_with c) s.setup.cap first s.commands))
    (parts_fit c always in_phase first (parts_of s.setup.cap s.commands) (Reached-start s (can_open s sound))
    (parts_within s.setup.cap (pages_of s.setup.space) s.commands sound.commands))

-- each state to which a prefix of them leads is bound
pub bound_along : ((s : State) → Reached s → IsInPhase s) → ((s : State) → ReachedByHit s → Bound s) → EachRunWithCallbacksIsBound
bound_along in_phase bound c always s sound =
    let fits = script_fits c always in_phase s sound in
    record {
      fit = fits.fit;
      bound = λ events rest is. bound (run (opening s.setup) events) (record {
        setup = s.setup;
        events = events;
        can_open = can_open s sound;
        fit = AllFit-prefix (opening s.setup) events rest (subst (λ es. AllFit (opening s.setup) es) is fits.fit);
        by_hit = AllByHit-prefix (opening s.setup) events rest (subst (λ es. AllByHit (opening s.setup) es) is fits.by_hit);
        is = refl;
      });
    }

-- each aggregation among them applies each active scheme to the best choice
pub choices_along : ((s : State) → Reached s → IsInPhase s) → ((s : State) → Reached s → ServesBest s) → EachRunWithCallbacksChoosesBest
choices_along in_phase best c always s sound events rest words is =
    let fits = script_fits c always in_phase s sound in
    best (run (opening s.setup) events) (record {
      setup = s.setup;
      events = events;
      can_open = can_open s sound;
      fit = AllFit-prefix (opening s.setup) events (aggregate words ∷ rest) (subst (λ es. AllFit (opening s.setup) es) is fits.fit);
      is = refl;
    })
