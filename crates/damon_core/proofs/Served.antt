-- What serving the slots keeps, of the notes and of the rows.
use Rattle.std.proofs.Common.{◌≡◌, ℕ, zero, suc, ◌+◌, ◌≤◌, Bool, true, false, List, [], ◌∷◌, Option, Some, None, refl, ◌∙◌, cond, arith}
use Rattle.std.specs.Prelude.{IfSome, if◌then◌else◌}
use Rattle.std.specs.Option.{option_map_or}
use Rattle.damon_types.specs.declared.scheme.Quota.{Quota}
use Rattle.damon_types.specs.declared.scheme.Scheme.{Scheme}
use Rattle.damon_types.specs.declared.space.Target.{Target}
use Rattle.region_list.specs.Regions.{RegionList}
use Rattle.quota_charge.specs.declared.cost.Cost.{Cost}
use Rattle.quota_charge.specs.Quota.{effective_pages, has_ended, left_of}
use Rattle.scheme_engine.specs.declared.applied.AppliedRun.{AppliedRun}
use Rattle.scheme_engine.specs.Kept.{AreTiled}
use Rattle.scheme_engine.specs.Outcome.{outcome_of}
use Rattle.scheme_engine.specs.Served.{no_choice}
use Rattle.scheme_engine.proofs.Lemmas.{outcome_sum, outcome_tiled, outcome_within}
use Rattle.damon_core.specs.Note.{Note, turned, ran}
use Rattle.damon_core.specs.State.{State}
use Rattle.damon_core.specs.Aggregate.{merged_regions, served}
use Rattle.damon_core.specs.Bound.{IsRunWithin}
use Rattle.damon_core.proofs.Walks.{EachRunIsWithin}
use Rattle.damon_core.specs.Serve.{Serving, nothing_served, serve_scheme, serve_slot, serve_slots, with_turn}
use Rattle.damon_core.specs.Slots.{charged_of, cost_of, is_active_in, pages_in, scheme_of, slot_count, start_of}
use Rattle.damon_core.proofs.Serving.{turn_is}
use Rattle.damon_core.proofs.ServeParts.{run_served, serve_now}

-- ---- facts of notes

-- a fact of notes that a window that begins and a run of a scheme keep
pub record KeptByServing (P : List Note → Type 0) : Type 0 where
  pub turning : (slot tick : ℕ) (notes : List Note) → P notes → P (turned slot tick ∷ notes)
  pub running : (slot tick tried : ℕ) (runs : List AppliedRun) (exceeds : Bool) (notes : List Note) → P notes → P (ran slot tick tried runs exceeds ∷ notes)

turn_holds : (P : List Note → Type 0) → ((slot tick : ℕ) (notes : List Note) → P notes → P (turned slot tick ∷ notes)) → (b : Bool) (slot tick : ℕ) (notes : List Note) → P notes → P (if b then turned slot tick ∷ notes else notes)
turn_holds P turning true slot tick notes holds = turning slot tick notes holds
turn_holds P turning false slot tick notes holds = holds

with_turn_holds : (P : List Note → Type 0) → ((slot tick : ℕ) (notes : List Note) → P notes → P (turned slot tick ∷ notes)) → (slot tick : ℕ) (quota : Option Quota) (notes : List Note) → P notes → P (with_turn slot tick quota notes)
with_turn_holds P turning slot tick None notes holds = holds
with_turn_holds P turning slot tick (Some q) notes holds = turn_holds P turning (has_ended q (start_of notes slot) tick) slot tick notes holds

now_holds : (P : List Note → Type 0) → KeptByServing P → (slot : ℕ) (space : List Target) (aggr tick : ℕ) (regions : RegionList) (now : List Note) (scheme : Scheme) → P now → P (serve_now slot space aggr tick regions now scheme).notes
now_holds P kept slot space aggr tick regions now scheme holds =
    let left = left_of scheme.quota (cost_of now slot) (charged_of now slot) in
    let o = outcome_of slot space aggr scheme left regions in
    let off : Serving = record { rows = regions.rows; notes = now; runs = []; choices = no_choice slot ∷ [] } in
    elim (is_active_in now slot scheme) as (λ b. P (cond b (run_served slot tick left now o) off).notes) [
      | true ↦ kept.running slot tick o.tried o.runs o.exceeds now holds
      | false ↦ holds
    ]

slot_notes_hold : (P : List Note → Type 0) → KeptByServing P → (slot : ℕ) (space : List Target) (aggr tick : ℕ) (regions : RegionList) (notes : List Note) → P notes → P (serve_slot slot space aggr tick regions notes).notes
slot_notes_hold P kept slot space aggr tick regions notes holds = by_scheme (scheme_of notes slot)
  where
    by_scheme : (o : Option Scheme) → P (option_map_or (serve_scheme slot space aggr tick regions notes) o (nothing_served regions notes)).notes
    by_scheme None = holds
    by_scheme (Some scheme) = now_holds P kept slot space aggr tick regions (with_turn slot tick scheme.quota notes) scheme (with_turn_holds P kept.turning slot tick scheme.quota notes holds)

pub serve_notes_hold : (P : List Note → Type 0) → KeptByServing P → (n slot : ℕ) (space : List Target) (aggr tick : ℕ) (regions : RegionList) (notes : List Note) → P notes → P (serve_slots n slot space aggr tick regions notes).notes
serve_notes_hold P kept zero slot space aggr tick regions notes holds = holds
serve_notes_hold P kept (suc n) slot space aggr tick regions notes holds =
    let first = serve_slot slot space aggr tick regions notes in
    serve_notes_hold P kept n (slot + 1) space aggr tick (record regions { rows = first.rows }) first.notes (slot_notes_hold P kept slot space aggr tick regions notes holds)

-- a fact of the notes of a state that the notes of its aggregation keep
pub notes_hold : (P : List Note → Type 0) → KeptByServing P → (s : State) → P s.notes → P (served s).notes
notes_hold P kept s holds = serve_notes_hold P kept slot_count 0 s.core.space s.core.attrs.aggr s.core.ticks (merged_regions s.core) s.notes holds

-- ---- facts of rows

-- a fact of regions that a run of a scheme keeps
abbrev pub KeptByRuns : (RegionList → Type 0) → Type 0
KeptByRuns P = (slot aggr : ℕ) (space : List Target) (scheme : Scheme) (left : Option ℕ) (r : RegionList) → P r → P (record r { rows = (outcome_of slot space aggr scheme left r).rows })

pub slot_rows_hold : (P : RegionList → Type 0) → KeptByRuns P → (slot : ℕ) (space : List Target) (aggr tick : ℕ) (regions : RegionList) (notes : List Note) → P regions → P (record regions { rows = (serve_slot slot space aggr tick regions notes).rows })
slot_rows_hold P kept slot space aggr tick regions notes holds = by_scheme (scheme_of notes slot)
  where
    by_scheme : (o : Option Scheme) → P (record regions { rows = (option_map_or (serve_scheme slot space aggr tick regions notes) o (nothing_served regions notes)).rows })
    by_scheme None = holds
    by_scheme (Some scheme) =
        let now = with_turn slot tick scheme.quota notes in
        let left = left_of scheme.quota (cost_of now slot) (charged_of now slot) in
        let o = outcome_of slot space aggr scheme left regions in
        let off : Serving = record { rows = regions.rows; notes = now; runs = []; choices = no_choice slot ∷ [] } in
        elim (is_active_in now slot scheme) as (λ b. P (record regions { rows = (cond b (run_served slot tick left now o) off).rows })) [
          | true ↦ kept slot aggr space scheme left regions holds
          | false ↦ holds
        ]

pub serve_rows_hold : (P : RegionList → Type 0) → KeptByRuns P → (n slot : ℕ) (space : List Target) (aggr tick : ℕ) (regions : RegionList) (notes : List Note) → P regions → P (record regions { rows = (serve_slots n slot space aggr tick regions notes).rows })
serve_rows_hold P kept zero slot space aggr tick regions notes holds = holds
serve_rows_hold P kept (suc n) slot space aggr tick regions notes holds =
    let first = serve_slot slot space aggr tick regions notes in
    serve_rows_hold P kept n (slot + 1) space aggr tick (record regions { rows = first.rows }) first.notes (slot_rows_hold P kept slot space aggr tick regions notes holds)

-- ---- runs within their quotas

within_quota : (quota : Option Quota) (cost : Cost) (charged pages taken : ℕ) → pages ≡ taken → IfSome (left_of quota cost charged) (λ most. taken ≤ most) → 1 ≤ pages → IfSome quota (λ q. charged + pages ≤ effective_pages q cost)
within_quota None cost charged pages taken same within some = tt
within_quota (Some q) cost charged pages taken same within some = omega (arith, within)

slot_within : (slot : ℕ) (space : List Target) (aggr tick : ℕ) (regions : RegionList) (notes : List Note) → AreTiled regions → EachRunIsWithin notes → EachRunIsWithin (serve_slot slot space aggr tick regions notes).notes
slot_within slot space aggr tick regions notes tiled each = by_scheme (scheme_of notes slot) refl
  where
    by_active : (scheme : Scheme) (now : List Note) → scheme_of now slot ≡ Some scheme → EachRunIsWithin now → (b : Bool) → is_active_in now slot scheme ≡ b
        → EachRunIsWithin (cond b (run_served slot tick (left_of scheme.quota (cost_of now slot) (charged_of now slot)) now (outcome_of slot space aggr scheme (left_of scheme.quota (cost_of now slot) (charged_of now slot)) regions)) (record { rows = regions.rows; notes = now; runs = []; choices = no_choice slot ∷ [] })).notes
    by_active scheme now is each true active =
        let left = left_of scheme.quota (cost_of now slot) (charged_of now slot) in
        let o = outcome_of slot space aggr scheme left regions in
        let run : IsRunWithin now slot o.runs = record {
          scheme = scheme;
          is_set = is;
          active = active;
          within = within_quota scheme.quota (cost_of now slot) (charged_of now slot) (pages_in o.runs) o.taken (outcome_sum slot aggr space scheme left regions tiled) (outcome_within slot aggr space scheme left regions tiled);
        } in
        (run, each)
    by_active scheme now is each false active = each

    by_scheme : (o : Option Scheme) → scheme_of notes slot ≡ o → EachRunIsWithin (option_map_or (serve_scheme slot space aggr tick regions notes) o (nothing_served regions notes)).notes
    by_scheme None is = each
    by_scheme (Some scheme) is =
        let now = with_turn slot tick scheme.quota notes in
        let turn = turn_is slot tick scheme.quota notes in
        by_active scheme now (turn.scheme ∙ is) (with_turn_holds EachRunIsWithin (λ i t ns all. all) slot tick scheme.quota notes each) (is_active_in now slot scheme) refl

pub runs_within : (n slot : ℕ) (space : List Target) (aggr tick : ℕ) (regions : RegionList) (notes : List Note) → AreTiled regions → EachRunIsWithin notes → EachRunIsWithin (serve_slots n slot space aggr tick regions notes).notes
runs_within zero slot space aggr tick regions notes tiled each = each
runs_within (suc n) slot space aggr tick regions notes tiled each =
    let first = serve_slot slot space aggr tick regions notes in
    runs_within n (slot + 1) space aggr tick (record regions { rows = first.rows }) first.notes
    (slot_rows_hold AreTiled (λ i a sp sc l r t. outcome_tiled i a sp sc l r t) slot space aggr tick regions notes tiled)
    (slot_within slot space aggr tick regions notes tiled each)
