-- A pass that is not void takes its steps, whatever events come between them.
use Rattle.std.proofs.Common.{◌≡◌, ◌≢◌, ℕ, zero, suc, ◌+◌, ◌-◌, ◌*◌, ◌<◌, Bool, true, false, cond, List, [], ◌∷◌, ◌++◌, length, length-append, Ok, Err, refl, sym, ap, ◌∙◌, subst, arith}
use Rattle.std.specs.Prelude.{◌==◌, Result, map}
use Rattle.std.proofs.lemmas.Bool.{false≢true}
use Rattle.std.proofs.lemmas.Bool.Decides.{nat_tests}
use Rattle.std.proofs.lemmas.List.{length-map}
use Rattle.std.proofs.lemmas.List.Elements.{filter-append}
use Rattle.damon_types.specs.Span.{spans}
use Rattle.damon_types.specs.declared.row.Row.{Row}
use Rattle.live_commit.specs.declared.fault.CommitFault.{CommitFault}
use Rattle.live_commit.specs.declared.phase.Phase.{Phase}
use Rattle.live_commit.specs.declared.phase.Phase.TheVariants.{Idle, Clearing, Armed, Checking, Void, Due}
use Rattle.live_commit.specs.Commit.{CommitValue}
use Rattle.damon_core.specs.State.{Core, State, row_count}
use Rattle.damon_core.specs.Event.{Event, Fits, IsClearing, IsLoading, IsObserving, clear_index, load_index, touch, prepare, clear, load, observe, aggregate, commit, show}
use Rattle.damon_core.specs.After.{after, by_clear, by_load, phase_cleared}
use Rattle.damon_core.specs.Commit.{check_of, committed, committed_core, if_accepted, phase_after_commit}
use Rattle.damon_core.specs.InPhase.{IsInPhase}
use Rattle.damon_core.proofs.Following.{Reached-run}
use Rattle.damon_core.specs.Pass.{IsBetween, IsPickWithin}
use Rattle.damon_core.specs.Reached.{AllFit, Reached, run}
use Rattle.damon_core.specs.Several.{clears}
use Rattle.damon_core.specs.Steps.{EndsPass, IsPass, NoneEnds, TakesItsSteps, is_step, steps_of}
use Rattle.damon_core.proofs.Committing.{allows_commit, by_phase_after, same_length}

-- n clears, and a load for each row
record AreLeft (n rows : ℕ) (steps : List Event) : Type 0 where
  hits : List Bool
  each : length hits ≡ rows
  are : steps ≡ clears n ++ map (λ hit. load hit) hits

-- the steps that are left of a pass in this phase, before its end
abbrev Left : Phase → ℕ → List Event → Type 0
Left (Clearing k) rows steps = AreLeft (rows - k) rows steps
Left Armed rows steps = AreLeft 0 rows steps
Left (Checking k) rows steps = AreLeft 0 (rows - k) steps
Left _ rows steps = ⊥

left_at_end : (ph : Phase) (rows : ℕ) → IsObserving ph rows → ph ≢ Void → Left ph rows []
left_at_end (Checking k) rows fits counts = record { hits = []; each = omega (arith, fits); are = refl }
left_at_end Void rows fits counts = absurd (counts refl)
left_at_end Idle rows fits counts = absurd fits
left_at_end (Clearing k) rows fits counts = absurd fits
left_at_end Armed rows fits counts = absurd fits
left_at_end Due rows fits counts = absurd fits

-- before a clear
one_clear : (k rows : ℕ) (steps : List Event) → k < rows → Left (phase_cleared (k + 1) rows) rows steps → AreLeft (rows - k) rows (clear ∷ steps)
one_clear k rows steps below left = elim (k + 1 == rows) as (λ b. (k + 1 == rows) ≡ b → Left (cond b Armed (Clearing (k + 1))) rows steps → AreLeft (rows - k) rows (clear ∷ steps)) [
  | true ↦ λ is rest. (
      let one : suc 0 ≡ rows - k = grind (arith, nat_tests) in
      record { hits = rest.hits; each = rest.each; are = ap (λ es. clear ∷ es) rest.are ∙ ap (λ n. clears n ++ map (λ hit. load hit) rest.hits) one })
  | false ↦ λ isnt rest. (
      let more : suc (rows - (k + 1)) ≡ rows - k = omega (arith, below) in
      record { hits = rest.hits; each = rest.each; are = ap (λ es. clear ∷ es) rest.are ∙ ap (λ n. clears n ++ map (λ hit. load hit) rest.hits) more })
] refl left

left_before_clear : (ph : Phase) (rows : ℕ) (steps : List Event) → IsClearing ph → IsPickWithin ph rows → Left (phase_cleared (clear_index ph + 1) rows) rows steps → Left ph rows (clear ∷ steps)
left_before_clear (Clearing k) rows steps fits within left = one_clear k rows steps within left
left_before_clear Idle rows steps fits within left = absurd fits
left_before_clear Armed rows steps fits within left = absurd fits
left_before_clear (Checking k) rows steps fits within left = absurd fits
left_before_clear Void rows steps fits within left = absurd fits
left_before_clear Due rows steps fits within left = absurd fits

-- before a load
one_load : (n rows : ℕ) (h : Bool) (steps : List Event) → suc n ≡ rows → AreLeft 0 n steps → AreLeft 0 rows (load h ∷ steps)
one_load n rows h steps is rest = record { hits = h ∷ rest.hits; each = omega (arith, is, rest.each); are = ap (λ es. load h ∷ es) rest.are }

left_before_load : (ph : Phase) (rows : ℕ) (h : Bool) (steps : List Event) → IsLoading ph rows → 0 < rows → Left (Checking (load_index ph + 1)) rows steps → Left ph rows (load h ∷ steps)
left_before_load Armed rows h steps fits some left = one_load (rows - (0 + 1)) rows h steps (omega (arith, some)) left
left_before_load (Checking k) rows h steps fits some left = one_load (rows - (k + 1)) (rows - k) h steps (omega (arith, fits)) left
left_before_load Idle rows h steps fits some left = absurd fits
left_before_load (Clearing k) rows h steps fits some left = absurd fits
left_before_load Void rows h steps fits some left = absurd fits
left_before_load Due rows h steps fits some left = absurd fits

-- the phase and the rows after a clear, and after a load
core_cleared : (ph : Phase) (s : State) → IsClearing ph → (by_clear ph s).core ≡ record s.core { phase = phase_cleared (clear_index ph + 1) (row_count s.core) }
core_cleared (Clearing k) s fits = refl
core_cleared Idle s fits = absurd fits
core_cleared Armed s fits = absurd fits
core_cleared (Checking k) s fits = absurd fits
core_cleared Void s fits = absurd fits
core_cleared Due s fits = absurd fits

core_loaded : (ph : Phase) (s : State) (h : Bool) → IsLoading ph (row_count s.core) → (by_load ph h s).core ≡ record s.core { phase = Checking (load_index ph + 1) }
core_loaded Armed s h fits = refl
core_loaded (Checking k) s h fits = refl
core_loaded (Clearing k) s h fits = absurd fits
core_loaded Idle s h fits = absurd fits
core_loaded Void s h fits = absurd fits
core_loaded Due s h fits = absurd fits

cleared_amid : (k rows : ℕ) → ¬ IsBetween (phase_cleared k rows)
cleared_amid k rows = elim (k == rows) as (λ b. ¬ IsBetween (cond b Armed (Clearing k))) [ true ↦ λ between. between | false ↦ λ between. between ]

-- What is left of a pass under way, before these events and its end: the pass is not void when it ends, and the rows lie then
-- where they lie now.
record IsLeft (s : State) (events : List Event) : Type 0 where
  left : Left s.core.phase (row_count s.core) (steps_of events)
  rows : spans (run s events).core.regions.rows ≡ spans s.core.regions.rows

-- a commit within a pass: what is left after it was left before
record IsLeftBefore (old : Core) (ph : Phase) (rows : List Row) : Type 0 where
  amid : ¬ IsBetween ph
  back : (steps : List Event) → Left ph (length rows) steps → Left old.phase (row_count old) steps × (spans rows ≡ spans old.regions.rows)

left_before_accepted : (c : CommitValue) (s : State) → check_of c s.core ≡ Ok tt → ¬ IsBetween s.core.phase → IsLeftBefore s.core (committed_core c s.core).phase (committed_core c s.core).regions.rows
left_before_accepted c s ok amid = by_phase_after (λ ph. IsLeftBefore s.core ph new) s.core.phase old new (allows_commit c s.core ok)
    (λ is lies. record { amid = λ between. between; back = λ steps left. (armed is lies steps left, sym lies) })
    (λ is. voided)
    (λ is. voided)
    (λ is. absurd (amid (subst IsBetween (sym is) tt)))
    (λ is. absurd (amid (subst IsBetween (sym is) tt)))
  where
    old : List Row
    old = s.core.regions.rows

    new : List Row
    new = (committed_core c s.core).regions.rows

    armed : s.core.phase ≡ Armed → spans old ≡ spans new → (steps : List Event) → Left Armed (length new) steps → Left s.core.phase (length old) steps
    armed is lies steps left = subst (λ ph. Left ph (length old) steps) (sym is) (subst (λ n. Left Armed n steps) (sym (same_length old new lies)) left)

    voided : IsLeftBefore s.core Void new
    voided = record { amid = λ between. between; back = λ steps left. absurd left }

left_before_commit : (checked : Result (Unit {0}) CommitFault) (c : CommitValue) (s : State) → check_of c s.core ≡ checked → ¬ IsBetween s.core.phase → IsLeftBefore s.core (if_accepted checked (committed c s) s).core.phase (if_accepted checked (committed c s) s).core.regions.rows
left_before_commit (Ok t) c s ok amid = left_before_accepted c s ok amid
left_before_commit (Err fault) c s refused amid = record { amid = amid; back = λ steps left. (left, refl) }

-- what the law of phases says
abbrev pub AreInPhase : Type 0
AreInPhase = (s : State) → Reached s → IsInPhase s

due_is_between : (ph : Phase) → ph ≡ Due → IsBetween ph
due_is_between ph is = subst IsBetween (sym is) tt

idle_is_between : (ph : Phase) → ph ≡ Idle → IsBetween ph
idle_is_between ph is = subst IsBetween (sym is) tt

is_left : AreInPhase → (events : List Event) (s : State) → Reached s → ¬ IsBetween s.core.phase → AllFit s (events ++ observe ∷ []) → NoneEnds events → (run s events).core.phase ≢ Void → IsLeft s events
is_left law [] s reached amid fit first counts = record { left = left_at_end s.core.phase (row_count s.core) fit.0 counts; rows = refl }
is_left law (touch p ∷ es) s reached amid fit first counts =
    let rest = is_left law es (after s (touch p)) (Reached-run s (touch p ∷ []) reached (fit.0, tt)) amid fit.1 first counts in
    record { left = rest.left; rows = rest.rows }
is_left law (show ∷ es) s reached amid fit first counts =
    let rest = is_left law es s reached amid fit.1 first counts in
    record { left = rest.left; rows = rest.rows }
is_left law (commit c ∷ es) s reached amid fit first counts =
    let t = after s (commit c) in
    let before = left_before_commit (check_of c s.core) c s refl amid in
    let rest = is_left law es t (Reached-run s (commit c ∷ []) reached (fit.0, tt)) before.amid fit.1 first counts in
    let back = before.back (steps_of es) rest.left in
    record { left = back.0; rows = rest.rows ∙ back.1 }
is_left law (clear ∷ es) s reached amid fit first counts =
    let t = after s clear in
    let core : t.core ≡ record s.core { phase = phase_cleared (clear_index s.core.phase + 1) (row_count s.core) } = core_cleared s.core.phase s fit.0 in
    let still = subst (λ (c : Core). ¬ IsBetween c.phase) (sym core) (cleared_amid (clear_index s.core.phase + 1) (row_count s.core)) in
    let rest = is_left law es t (Reached-run s (clear ∷ []) reached (fit.0, tt)) still fit.1 first counts in
    record {
      left = left_before_clear s.core.phase (row_count s.core) (steps_of es) fit.0 (law s reached).pick (subst (λ (c : Core). Left c.phase (row_count c) (steps_of es)) core rest.left);
      rows = rest.rows ∙ ap (λ (c : Core). spans c.regions.rows) core;
    }
is_left law (load h ∷ es) s reached amid fit first counts =
    let t = after s (load h) in
    let core : t.core ≡ record s.core { phase = Checking (load_index s.core.phase + 1) } = core_loaded s.core.phase s h fit.0 in
    let still = subst (λ (c : Core). ¬ IsBetween c.phase) (sym core) (λ between. between) in
    let rest = is_left law es t (Reached-run s (load h ∷ []) reached (fit.0, tt)) still fit.1 first counts in
    record {
      left = left_before_load s.core.phase (row_count s.core) h (steps_of es) fit.0 (law s reached).some (subst (λ (c : Core). Left c.phase (row_count c) (steps_of es)) core rest.left);
      rows = rest.rows ∙ ap (λ (c : Core). spans c.regions.rows) core;
    }
is_left law (observe ∷ es) s reached amid fit first counts = absurd first
is_left law (prepare ws ∷ es) s reached amid fit first counts = absurd (amid (idle_is_between s.core.phase fit.0.0))
is_left law (aggregate ws ∷ es) s reached amid fit first counts = absurd (amid (due_is_between s.core.phase fit.0.0))

length-clears : (n : ℕ) → length (clears n) ≡ n
length-clears zero = refl
length-clears (suc n) = omega (arith, length-clears n)

-- the steps of a pass are 2 * rows + 2
length-pass : (rows : ℕ) (events : List Event) → IsPass rows events → length events ≡ 2 * rows + 2
length-pass rows events is =
    let hits : List Event = map (λ hit. load hit) is.hits in
    omega (arith, ap (λ (es : List Event). length es) is.are, length-append (clears rows ++ hits) (observe ∷ []), length-append (clears rows) hits, length-clears rows, length-map is.hits (λ hit. load hit), is.each)

pub takes_its_steps : AreInPhase → (s : State) (words : List ℕ) (events : List Event) → Reached s → EndsPass s words events → TakesItsSteps s words events
takes_its_steps law s words events reached ends =
    let t = after s (prepare words) in
    let rest = is_left law events t (Reached-run s (prepare words ∷ []) reached (ends.fit.0, tt)) (λ between. between) ends.fit.1 ends.first ends.counts in
    let all : steps_of (events ++ observe ∷ []) ≡ steps_of events ++ observe ∷ [] = filter-append is_step events (observe ∷ []) in
    let from : row_count s.core - 0 ≡ row_count s.core = omega arith in
    let left : AreLeft (row_count s.core - 0) (row_count s.core) (steps_of events) = rest.left in
    let pass : IsPass (row_count s.core) (steps_of (prepare words ∷ (events ++ observe ∷ []))) = record {
      words = words;
      hits = left.hits;
      each = left.each;
      are = ap (λ es. prepare words ∷ es) (all ∙ ap (λ es. es ++ observe ∷ []) (left.are ∙ ap (λ n. clears n ++ map (λ hit. load hit) left.hits) from));
    } in
    record { pass = pass; count = length-pass (row_count s.core) (steps_of (prepare words ∷ (events ++ observe ∷ []))) pass; rows = rest.rows }

-- from Idle, the first step prepares a pass
pub begins : (s : State) (e : Event) → s.core.phase ≡ Idle → Fits s e → is_step e ≡ true → (words : List ℕ) × (e ≡ prepare words)
begins s (prepare ws) idle fits step = (ws, refl)
begins s (touch p) idle fits step = absurd (false≢true step)
begins s (commit c) idle fits step = absurd (false≢true step)
begins s show idle fits step = absurd (false≢true step)
begins s clear idle fits step = absurd (subst IsClearing idle fits)
begins s (load h) idle fits step = absurd (subst (λ ph. IsLoading ph (row_count s.core)) idle fits)
begins s observe idle fits step = absurd (subst (λ ph. IsObserving ph (row_count s.core)) idle fits)
begins s (aggregate ws) idle fits step = absurd (cc (sym idle ∙ fits.0))

waits_for : (checked : Result (Unit {0}) CommitFault) (c : CommitValue) (s : State) → s.core.phase ≡ Idle → (if_accepted checked (committed c s) s).core.phase ≡ Idle
waits_for (Ok t) c s idle = ap (λ ph. phase_after_commit ph s.core.regions.rows (committed_core c s.core).regions.rows) idle
waits_for (Err fault) c s idle = idle

-- before it, the phase stays
pub waits : (s : State) (e : Event) → s.core.phase ≡ Idle → is_step e ≡ false → (after s e).core.phase ≡ Idle
waits s (touch p) idle other = idle
waits s show idle other = idle
waits s (commit c) idle other = waits_for (check_of c s.core) c s idle
waits s (prepare ws) idle other = absurd (false≢true (sym other))
waits s clear idle other = absurd (false≢true (sym other))
waits s (load h) idle other = absurd (false≢true (sym other))
waits s observe idle other = absurd (false≢true (sym other))
waits s (aggregate ws) idle other = absurd (false≢true (sym other))
