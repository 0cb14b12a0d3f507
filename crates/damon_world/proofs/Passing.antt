-- The phase that a pass has reached after so many of its steps.
use Rattle.std.proofs.Common.{◌≡◌, ℕ, zero, suc, ◌+◌, ◌*◌, ◌≤◌, ◌<◌, Bool, true, false, cond, List, [], ◌∷◌, ◌++◌, length, refl, sym, ap, ◌∙◌, subst, arith}
use Rattle.std.specs.Prelude.{◌==◌, map, nat_le}
use Rattle.std.proofs.lemmas.Bool.Decides.{nat_tests}
use Rattle.rand_core.specs.Stream.{Stream}
use Rattle.live_commit.specs.declared.phase.Phase.{Phase}
use Rattle.live_commit.specs.declared.phase.Phase.TheVariants.{Idle, Clearing, Armed, Checking, Void, Due}
use Rattle.damon_core.specs.State.{Core, State, row_count}
use Rattle.damon_core.specs.Event.{IsLoading, observe, load, load_index, next_hit}
use Rattle.damon_core.specs.Several.{clears}
use Rattle.damon_core.specs.After.{phase_cleared, phase_after_pass}
use Rattle.damon_core.specs.Pass.{IsBetween}
use Rattle.damon_core.specs.Steps.{IsPass, pass_steps}
use Rattle.damon_world.specs.Moment.{Moment, event_in, events_of_steps, moved, next_event, stepped, stepped_times}
use Rattle.sampler.specs.Draws.{drawn}
use Rattle.damon_world.specs.Pass.{core_after, TakesItsSteps}
use Rattle.damon_world.proofs.Following.{events_append, events_more, stepped_more}
use Rattle.damon_world.proofs.Stepping.{event_in-load, is_last, not_last}
use Rattle.damon_world.proofs.Advancing.{clears_to, core-by_load}

-- the phase that a pass of so many rows has reached after n steps
abbrev pub IsAt : Phase → ℕ → ℕ → Type 0
IsAt (Clearing k) rows n = (k < rows) × (n ≡ k + 1)
IsAt Armed rows n = n ≡ rows + 1
IsAt (Checking k) rows n = (1 ≤ k) × (k ≤ rows) × (n ≡ rows + 1 + k)
IsAt _ rows n = ⊥

-- the moment is that after n steps of a pass
pub record Reaches (x : Moment) (rows ticks n : ℕ) : Type 0 where
  pub at : IsAt x.state.core.phase rows n
  pub same_rows : row_count x.state.core ≡ rows
  pub same_ticks : x.state.core.ticks ≡ ticks

-- a moment in this phase
abbrev in_phase : Phase → State → Stream → Moment
in_phase ph s stream = record { state = record { core = record s.core { phase = ph }; notes = s.notes }; stream = stream }

begin_at : (ph : Phase) (s : State) (stream : Stream) → ph ≡ Idle → 0 < row_count s.core → Reaches (stepped (in_phase ph s stream)) (row_count s.core) s.core.ticks 1
begin_at Idle s stream idle some = record { at = (some, refl); same_rows = refl; same_ticks = refl }
begin_at _ s stream idle some = absurd (cc)

at_clear : (k rows n : ℕ) → k < rows → n ≡ k + 1 → IsAt (phase_cleared (k + 1) rows) rows (suc n)
at_clear k rows n below is_n = elim (k + 1 == rows) as (λ b. (k + 1 == rows) ≡ b → IsAt (cond b Armed (Clearing (k + 1))) rows (suc n)) [
  | true ↦ λ is. (let last : k + 1 ≡ rows = grind (arith, nat_tests) in omega arith)
  | false ↦ λ isnt. (let more : k + 1 < rows = grind (arith, nat_tests) in (more, omega arith))
] refl

advance_at : (ph : Phase) (s : State) (stream : Stream) (n : ℕ) → IsAt ph (row_count s.core) n → n ≤ 2 * row_count s.core → Reaches (stepped (in_phase ph s stream)) (row_count s.core) s.core.ticks (suc n)
advance_at (Clearing k) s stream n at early = record { at = at_clear k (row_count s.core) n at.0 at.1; same_rows = refl; same_ticks = refl }
advance_at Armed s stream n at early = record { at = (omega arith, omega arith, omega arith); same_rows = refl; same_ticks = refl }
advance_at (Checking k) s stream n at early =
    let x = in_phase (Checking k) s stream in
    let more : k < row_count s.core = omega (arith, at.2) in
    let here : Reaches (moved x (load (next_hit x.state))) (row_count s.core) s.core.ticks (suc n) =
    record { at = (omega arith, omega arith, omega (arith, at.2)); same_rows = refl; same_ticks = refl } in
    subst (λ (b : Bool). Reaches (moved x (cond b observe (load (next_hit x.state)))) (row_count s.core) s.core.ticks (suc n)) (sym (not_last k (row_count s.core) more)) here
advance_at Idle s stream n at early = absurd at
advance_at Void s stream n at early = absurd at
advance_at Due s stream n at early = absurd at

-- the phase after n steps of a pass, and one
pub reached : (m : Moment) → m.state.core.phase ≡ Idle → 0 < row_count m.state.core → (n : ℕ) → n ≤ 2 * row_count m.state.core → Reaches (stepped_times (suc n) m) (row_count m.state.core) m.state.core.ticks (suc n)
reached m idle some zero early = begin_at m.state.core.phase m.state m.stream idle some
reached m idle some (suc n) early =
    let x = stepped_times (suc n) m in
    let rows = row_count m.state.core in
    let before : Reaches x rows m.state.core.ticks (suc n) = reached m idle some n (omega arith) in
    let next : Reaches (stepped x) (row_count x.state.core) x.state.core.ticks (suc (suc n)) =
    advance_at x.state.core.phase x.state x.stream (suc n) (subst (λ r. IsAt x.state.core.phase r (suc n)) (sym before.same_rows) before.at) (omega (arith, before.same_rows)) in
    subst (λ y. Reaches y rows m.state.core.ticks (suc (suc n))) (sym (stepped_more (suc n) m))
    (subst (λ r. Reaches (stepped x) r m.state.core.ticks (suc (suc n))) before.same_rows (subst (λ t. Reaches (stepped x) (row_count x.state.core) t (suc (suc n))) before.same_ticks next))

-- the moment after the last step of a pass
record Ends (x : Moment) (ticks : ℕ) : Type 0 where
  one_more : x.state.core.ticks ≡ ticks + 1
  between : IsBetween x.state.core.phase

between_passes : (since aggr : ℕ) → IsBetween (phase_after_pass since aggr)
between_passes since aggr = elim (nat_le aggr since) as (λ b. IsBetween (cond b Due Idle)) [ true ↦ tt | false ↦ tt ]

end_at : (ph : Phase) (s : State) (stream : Stream) (n : ℕ) → IsAt ph (row_count s.core) n → 0 < row_count s.core → n ≡ 2 * row_count s.core + 1 → Ends (stepped (in_phase ph s stream)) s.core.ticks
end_at (Checking k) s stream n at some last =
    let x = in_phase (Checking k) s stream in
    let all : k ≡ row_count s.core = omega (arith, at.2) in
    let here : Ends (moved x observe) s.core.ticks =
    record { one_more = refl; between = between_passes (s.core.since + 1) s.core.attrs.aggr } in
    subst (λ (b : Bool). Ends (moved x (cond b observe (load (next_hit x.state)))) s.core.ticks) (sym (is_last k (row_count s.core) all)) here
end_at (Clearing k) s stream n at some last = absurd (omega (arith, at.0, at.1))
end_at Armed s stream n at some last = absurd (omega arith)
end_at _ s stream n at some last = absurd at

-- a phase of a pass is no phase between passes
under_way : (ph : Phase) (rows n : ℕ) → IsAt ph rows n → ¬ IsBetween ph
under_way Idle rows n at = absurd at
under_way Void rows n at = absurd at
under_way Due rows n at = absurd at
under_way _ rows n at = λ between. between

still_at : (m : Moment) → m.state.core.phase ≡ Idle → 0 < row_count m.state.core → (n : ℕ) → n < pass_steps (row_count m.state.core) → (core_after n m).ticks ≡ m.state.core.ticks
still_at m idle some zero early = refl
still_at m idle some (suc n) early = (reached m idle some n (omega arith)).same_ticks

under_way_at : (m : Moment) → m.state.core.phase ≡ Idle → 0 < row_count m.state.core → (n : ℕ) → 1 ≤ n → n < pass_steps (row_count m.state.core) → ¬ IsBetween (core_after n m).phase
under_way_at m idle some zero begun early = absurd (omega arith)
under_way_at m idle some (suc n) begun early = under_way (core_after (suc n) m).phase (row_count m.state.core) (suc n) (reached m idle some n (omega arith)).at

ends_at : (m : Moment) → m.state.core.phase ≡ Idle → 0 < row_count m.state.core → Ends (stepped_times (pass_steps (row_count m.state.core)) m) m.state.core.ticks
ends_at m idle some =
    let rows = row_count m.state.core in
    let x = stepped_times (suc (2 * rows)) m in
    let before : Reaches x rows m.state.core.ticks (suc (2 * rows)) = reached m idle some (2 * rows) (omega arith) in
    let ended : Ends (stepped x) x.state.core.ticks =
    end_at x.state.core.phase x.state x.stream (suc (2 * rows)) (subst (λ r. IsAt x.state.core.phase r (suc (2 * rows))) (sym before.same_rows) before.at) (omega (arith, before.same_rows)) (omega (arith, before.same_rows)) in
    let count : suc (suc (2 * rows)) ≡ pass_steps rows = omega arith in
    subst (λ n. Ends (stepped_times n m) m.state.core.ticks) count
    (subst (λ y. Ends y m.state.core.ticks) (sym (stepped_more (suc (2 * rows)) m)) (subst (λ t. Ends (stepped x) t) before.same_ticks ended))

-- ---- the kinds of the steps

-- the next n steps are loads
record AreLoads (x : Moment) (n : ℕ) : Type 0 where
  hits : List Bool
  each : length hits ≡ n
  are : events_of_steps n x ≡ map (λ hit. load hit) hits

are_loads : (x : Moment) (n : ℕ) → (0 < n → IsLoading x.state.core.phase (row_count x.state.core)) → load_index x.state.core.phase + n ≤ row_count x.state.core → AreLoads x n
are_loads x zero loading within = record { hits = []; each = refl; are = refl }
are_loads x (suc n) loading within =
    let s = x.state in
    let fits = loading (omega arith) in
    let h = next_hit s in
    let next : next_event s x.stream ≡ load h = event_in-load s.core.phase s x.stream fits in
    let y = moved x (load h) in
    let core : y.state.core ≡ record s.core { phase = Checking (load_index s.core.phase + 1) } = core-by_load s.core.phase s h fits in
    let index : load_index y.state.core.phase ≡ load_index s.core.phase + 1 = ap (λ (c : Core). load_index c.phase) core in
    let rows : row_count y.state.core ≡ row_count s.core = ap row_count core in
    let still : 0 < n → IsLoading y.state.core.phase (row_count y.state.core) = λ some. subst (λ (c : Core). IsLoading c.phase (row_count c)) (sym core) (omega (arith, within, some)) in
    let rest = are_loads y n still (omega (arith, index, rows, within)) in
    record {
      hits = h ∷ rest.hits;
      each = omega (arith, rest.each);
      are = ap (λ e. e ∷ events_of_steps n (moved x e)) next ∙ ap (λ es. load h ∷ es) rest.are;
    }

-- the phase in which a pass is after n steps
begun_at : (ph : Phase) (rows : ℕ) → IsAt ph rows 1 → 0 < rows → ph ≡ Clearing 0
begun_at (Clearing k) rows at some = let first : k ≡ 0 = omega (arith, at.1) in ap (λ i. Clearing i) first
begun_at Armed rows at some = absurd (omega (arith, at))
begun_at (Checking k) rows at some = absurd (omega (arith, at.0, at.2))
begun_at _ rows at some = absurd at

armed_at : (ph : Phase) (rows : ℕ) → IsAt ph rows (rows + 1) → ph ≡ Armed
armed_at (Clearing k) rows at = absurd (omega (arith, at.0, at.1))
armed_at Armed rows at = refl
armed_at (Checking k) rows at = absurd (omega (arith, at.0, at.2))
armed_at _ rows at = absurd at

last_at : (ph : Phase) (s : State) (stream : Stream) → IsAt ph (row_count s.core) (2 * row_count s.core + 1) → 0 < row_count s.core → event_in ph s stream ≡ observe
last_at (Checking k) s stream at some = ap (λ b. cond b observe (load (next_hit s))) (is_last k (row_count s.core) (omega (arith, at.2)))
last_at (Clearing k) s stream at some = absurd (omega (arith, at.0, at.1))
last_at Armed s stream at some = absurd (omega (arith, at, some))
last_at _ s stream at some = absurd at

is_pass : (m : Moment) → m.state.core.phase ≡ Idle → 0 < row_count m.state.core → IsPass (row_count m.state.core) (events_of_steps (pass_steps (row_count m.state.core)) m)
is_pass m idle some =
    let rows = row_count m.state.core in
    let ws = drawn rows m.stream in
    let begun = reached m idle some 0 (omega arith) in
    let x = stepped_times 1 m in
    let clearing : x.state.core.phase ≡ Clearing 0 = begun_at x.state.core.phase rows begun.at some in
    let cleared = clears_to x 0 rows clearing (omega (arith, begun.same_rows, some)) (omega (arith, begun.same_rows)) in
    let armed = subst (λ n. Reaches (stepped_times n m) rows m.state.core.ticks n) (suc_is_add rows) (reached m idle some rows (omega arith)) in
    let y = stepped_times (rows + 1) m in
    let y_armed : y.state.core.phase ≡ Armed = armed_at y.state.core.phase rows armed.at in
    let fits : IsLoading y.state.core.phase (row_count y.state.core) = subst (λ ph. IsLoading ph (row_count y.state.core)) (sym y_armed) tt in
    let loaded = are_loads y rows (λ more. fits) (omega (arith, armed.same_rows, ap load_index y_armed)) in
    let done = subst (λ n. Reaches (stepped_times n m) rows m.state.core.ticks n) (suc_is_add (2 * rows)) (reached m idle some (2 * rows) (omega arith)) in
    let z = stepped_times (2 * rows + 1) m in
    let ending : next_event z.state z.stream ≡ observe = last_at z.state.core.phase z.state z.stream (subst (λ r. IsAt z.state.core.phase r (2 * r + 1)) (sym done.same_rows) done.at) (omega (arith, done.same_rows, some)) in
    let whole : suc (2 * rows + 1) ≡ pass_steps rows = omega arith in
    let middle : rows + 1 + rows ≡ 2 * rows + 1 = omega arith in
    let front : 1 + rows ≡ rows + 1 = omega arith in
    record {
      words = ws;
      hits = loaded.hits;
      each = loaded.each;
      are =
          ap (λ n. events_of_steps n m) (sym whole)
          ∙ events_more (2 * rows + 1) m
          ∙ ap (λ e. events_of_steps (2 * rows + 1) m ++ e ∷ []) ending
          ∙ ap (λ n. events_of_steps n m ++ observe ∷ []) (sym middle)
          ∙ ap (λ es. es ++ observe ∷ []) (events_append (rows + 1) rows m)
          ∙ ap (λ es. (events_of_steps (rows + 1) m ++ es) ++ observe ∷ []) loaded.are
          ∙ ap (λ n. (events_of_steps n m ++ map (λ hit. load hit) loaded.hits) ++ observe ∷ []) (sym front)
          ∙ ap (λ es. (es ++ map (λ hit. load hit) loaded.hits) ++ observe ∷ []) (events_append 1 rows m)
          ∙ ap (λ es. ((events_of_steps 1 m ++ es) ++ map (λ hit. load hit) loaded.hits) ++ observe ∷ []) cleared.events
          ∙ ap (λ ph. event_in ph m.state m.stream ∷ (clears rows ++ map (λ hit. load hit) loaded.hits ++ observe ∷ [])) idle;
    }
  where
    suc_is_add : (n : ℕ) → suc n ≡ n + 1
    suc_is_add n = omega arith

pub takes_its_steps : (m : Moment) → m.state.core.phase ≡ Idle → 0 < row_count m.state.core → TakesItsSteps m
takes_its_steps m idle some =
    let ends = ends_at m idle some in
    record {
      pass = is_pass m idle some;
      still = still_at m idle some;
      under_way = under_way_at m idle some;
      ticks = ends.one_more;
      ended = ends.between;
    }
