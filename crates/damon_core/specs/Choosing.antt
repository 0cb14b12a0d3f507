-- What schemes are applied to in an aggregation, slot by slot.
use Rattle.std.specs.Prelude.{◌≡◌, ℕ, zero, suc, ◌+◌, true, false, List, [], ◌∷◌, Some, None}
use Rattle.damon_types.specs.declared.scheme.Scheme.{Scheme}
use Rattle.damon_types.specs.declared.space.Target.{Target}
use Rattle.region_list.specs.Regions.{RegionList}
use Rattle.scheme_engine.specs.Best.{IsBestRun}
use Rattle.scheme_engine.specs.Outcome.{Outcome}
use Rattle.scheme_engine.specs.Served.{choice_of, no_choice}
use Rattle.damon_core.specs.Note.{Note}
use Rattle.damon_core.specs.Aggregate.{merged_regions}
use Rattle.damon_core.specs.Serve.{Serving, left_then, serve_slot}
use Rattle.damon_core.specs.Slots.{is_active_in, scheme_of, slot_count}
use Rattle.damon_core.specs.State.{State}

-- An active scheme is applied to the best choice within what is left of its quota, once its window may have begun anew.
pub record AppliesBest (slot : ℕ) (space : List Target) (aggr tick : ℕ) (regions : RegionList) (notes : List Note) (scheme : Scheme) (y : Serving) : Type 0 where
  pub outcome : Outcome
  pub best : IsBestRun slot space aggr scheme (left_then slot tick notes scheme) regions outcome
  pub runs : y.runs ≡ outcome.runs
  pub choices : y.choices ≡ choice_of slot (left_then slot tick notes scheme) outcome ∷ []

-- Serving a slot that is not set applies nothing; one that is set but not active applies nothing, and its choice says so; one that
-- is set and active applies the best choice.
pub record IsSlotServed (slot : ℕ) (space : List Target) (aggr tick : ℕ) (regions : RegionList) (notes : List Note) (y : Serving) : Type 0 where
  pub unset : scheme_of notes slot ≡ None → (y.runs ≡ []) × (y.choices ≡ [])
  pub inactive : (scheme : Scheme) → scheme_of notes slot ≡ Some scheme → is_active_in notes slot scheme ≡ false → (y.runs ≡ []) × (y.choices ≡ no_choice slot ∷ [])
  pub active : (scheme : Scheme) → scheme_of notes slot ≡ Some scheme → is_active_in notes slot scheme ≡ true → AppliesBest slot space aggr tick regions notes scheme y

-- n slots from this one on are served in order, each over the rows and the notes as the slots before it leave them, and of each
-- this holds: of the slot, the rows and the notes before it, and of what serving it does
abbrev pub EachSlotServed : (ℕ → RegionList → List Note → Serving → Type 0) → ℕ → ℕ → List Target → ℕ → ℕ → RegionList → List Note → Type 0
EachSlotServed is zero slot space aggr tick regions notes = Unit {0}
EachSlotServed is (suc n) slot space aggr tick regions notes =
    let first = serve_slot slot space aggr tick regions notes in
    is slot regions notes first × EachSlotServed is n (slot + 1) space aggr tick (record regions { rows = first.rows }) first.notes

-- what an aggregation of a state does for its slots, over its merged rows
abbrev pub ServesBest : State → Type 0
ServesBest s =
    let c = s.core in
    EachSlotServed (λ slot regions notes y. IsSlotServed slot c.space c.attrs.aggr c.ticks regions notes y) slot_count 0 c.space c.attrs.aggr c.ticks (merged_regions c) s.notes
