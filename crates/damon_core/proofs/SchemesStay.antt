-- Events other than commits set and drop no slot.
use Rattle.std.proofs.Common.{◌≡◌, ℕ, zero, suc, ◌+◌, Bool, true, false, List, [], ◌∷◌, Option, Some, None, refl, ◌∙◌, if◌then◌else◌}
use Rattle.std.specs.Option.{option_map_or}
use Rattle.damon_types.specs.declared.scheme.Quota.{Quota}
use Rattle.damon_types.specs.declared.scheme.Scheme.{Scheme}
use Rattle.damon_types.specs.declared.space.Target.{Target}
use Rattle.region_list.specs.Regions.{RegionList}
use Rattle.quota_charge.specs.Quota.{left_of, has_ended}
use Rattle.scheme_engine.specs.Outcome.{outcome_of}
use Rattle.scheme_engine.specs.Served.{no_choice}
use Rattle.live_commit.specs.declared.phase.Phase.{Phase}
use Rattle.live_commit.specs.declared.phase.Phase.TheVariants.{Idle, Clearing, Armed, Checking, Void, Due}
use Rattle.damon_core.specs.After.{after, by_clear, by_load, by_observe}
use Rattle.damon_core.specs.Aggregate.{merged_regions}
use Rattle.damon_core.specs.Event.{Event, touch, prepare, clear, load, observe, aggregate, commit, show}
use Rattle.damon_core.specs.Note.{Note, turned}
use Rattle.damon_core.specs.Serve.{Serving, nothing_served, serve_scheme, serve_slot, serve_slots, with_turn}
use Rattle.damon_core.specs.Slots.{charged_of, cost_of, is_active_in, scheme_of, slot_count, start_of}
use Rattle.damon_core.specs.State.{State}
use Rattle.damon_core.proofs.ServeParts.{run_served}

-- an event that is no commit
abbrev pub IsNoCommit : Event → Type 0
IsNoCommit (commit parts) = ⊥
IsNoCommit _ = Unit {0}

-- a window that begins
pub turn_same : (slot tick : ℕ) (quota : Option Quota) (notes : List Note) (i : ℕ) → scheme_of (with_turn slot tick quota notes) i ≡ scheme_of notes i
turn_same slot tick quota notes i =
    elim (option_map_or (λ (q : Quota). has_ended q (start_of notes slot) tick) quota false) as (λ b. scheme_of (if b then turned slot tick ∷ notes else notes) i ≡ scheme_of notes i) [
      | true ↦ refl
      | false ↦ refl
    ]

-- one slot
module _ (slot : ℕ) (space : List Target) (aggr tick : ℕ) (regions : RegionList) (notes : List Note) where
  scheme_same : (scheme : Scheme) (i : ℕ) → scheme_of (serve_scheme slot space aggr tick regions notes scheme).notes i ≡ scheme_of notes i
  scheme_same scheme i =
      let now = with_turn slot tick scheme.quota notes in
      let left = left_of scheme.quota (cost_of now slot) (charged_of now slot) in
      let o = outcome_of slot space aggr scheme left regions in
      let idle : Serving = record { rows = regions.rows; notes = now; runs = []; choices = no_choice slot ∷ [] } in
      elim (is_active_in now slot scheme) as (λ b. scheme_of (if b then run_served slot tick left now o else idle).notes i ≡ scheme_of notes i) [
        | true ↦ turn_same slot tick scheme.quota notes i
        | false ↦ turn_same slot tick scheme.quota notes i
      ]

  pub slot_same : (i : ℕ) → scheme_of (serve_slot slot space aggr tick regions notes).notes i ≡ scheme_of notes i
  slot_same i =
      let by : Option Scheme → Serving = λ held. option_map_or (serve_scheme slot space aggr tick regions notes) held (nothing_served regions notes) in
      elim (scheme_of notes slot) as (λ held. scheme_of (by held).notes i ≡ scheme_of notes i) [
        | None ↦ refl
        | Some scheme ↦ scheme_same scheme i
      ]

-- all slots
pub slots_same : (n slot : ℕ) (space : List Target) (aggr tick : ℕ) (regions : RegionList) (notes : List Note) (i : ℕ)
    → scheme_of (serve_slots n slot space aggr tick regions notes).notes i ≡ scheme_of notes i
slots_same zero slot space aggr tick regions notes i = refl
slots_same (suc n) slot space aggr tick regions notes i =
    let first = serve_slot slot space aggr tick regions notes in
    slots_same n (slot + 1) space aggr tick (record regions { rows = first.rows }) first.notes i
    ∙ slot_same slot space aggr tick regions notes i

clear_same : (phase : Phase) (s : State) (i : ℕ) → scheme_of (by_clear phase s).notes i ≡ scheme_of s.notes i
clear_same (Clearing k) s i = refl
clear_same Idle s i = refl
clear_same Armed s i = refl
clear_same (Checking k) s i = refl
clear_same Void s i = refl
clear_same Due s i = refl

load_same : (phase : Phase) (hit : Bool) (s : State) (i : ℕ) → scheme_of (by_load phase hit s).notes i ≡ scheme_of s.notes i
load_same Armed hit s i = refl
load_same (Checking k) hit s i = refl
load_same Idle hit s i = refl
load_same (Clearing k) hit s i = refl
load_same Void hit s i = refl
load_same Due hit s i = refl

observe_same : (phase : Phase) (s : State) (i : ℕ) → scheme_of (by_observe phase s).notes i ≡ scheme_of s.notes i
observe_same (Checking k) s i = refl
observe_same Void s i = refl
observe_same Idle s i = refl
observe_same (Clearing k) s i = refl
observe_same Armed s i = refl
observe_same Due s i = refl

-- the scheme of each slot stays
pub scheme_stays : (s : State) (e : Event) → IsNoCommit e → (i : ℕ) → scheme_of (after s e).notes i ≡ scheme_of s.notes i
scheme_stays s (touch page) other i = refl
scheme_stays s (prepare words) other i = refl
scheme_stays s clear other i = clear_same s.core.phase s i
scheme_stays s (load hit) other i = load_same s.core.phase hit s i
scheme_stays s observe other i = observe_same s.core.phase s i
scheme_stays s (aggregate words) other i = slots_same slot_count 0 s.core.space s.core.attrs.aggr s.core.ticks (merged_regions s.core) s.notes i
scheme_stays s (commit parts) other i = absurd other
scheme_stays s show other i = refl
