-- Each slot that is served applies the best choice.
use Rattle.std.proofs.Common.{◌≡◌, ℕ, zero, suc, ◌+◌, Bool, true, false, List, [], ◌∷◌, Option, Some, None, ap, ◌∙◌, cond}
use Rattle.std.specs.Option.{option_map_or}
use Rattle.damon_types.specs.declared.scheme.Scheme.{Scheme}
use Rattle.damon_types.specs.declared.space.Target.{Target}
use Rattle.region_list.specs.Regions.{RegionList}
use Rattle.scheme_engine.specs.Kept.{AreTiled}
use Rattle.scheme_engine.specs.Outcome.{outcome_of}
use Rattle.scheme_engine.specs.Served.{no_choice}
use Rattle.scheme_engine.specs.Slots.{SetScheme}
use Rattle.scheme_engine.proofs.Lemmas.{outcome_best, outcome_tiled}
use Rattle.damon_core.specs.Note.{Note}
use Rattle.damon_core.specs.Aggregate.{merged_regions}
use Rattle.damon_core.specs.Choosing.{EachSlotServed, IsSlotServed, ServesBest}
use Rattle.damon_core.specs.Serve.{Serving, nothing_served, serve_scheme, serve_slot, with_turn, left_then}
use Rattle.damon_core.specs.Slots.{is_active_in, scheme_of, slot_count}
use Rattle.damon_core.specs.State.{State}
use Rattle.damon_core.proofs.Adapting.{merged_tiled}
use Rattle.damon_core.proofs.Rows.{HasRows, rows_of}
use Rattle.damon_core.proofs.Served.{slot_rows_hold}
use Rattle.damon_core.proofs.Serving.{turn_is}
use Rattle.damon_core.proofs.ServeParts.{run_served}

-- a slot that is served, by its scheme, and by whether that is active
by_scheme : (slot : ℕ) (space : List Target) (aggr tick : ℕ) (regions : RegionList) (notes : List Note) (o : Option Scheme) → scheme_of notes slot ≡ o → serve_slot slot space aggr tick regions notes ≡ option_map_or (serve_scheme slot space aggr tick regions notes) o (nothing_served regions notes)
by_scheme slot space aggr tick regions notes o is = ap (λ (x : Option Scheme). option_map_or (serve_scheme slot space aggr tick regions notes) x (nothing_served regions notes)) is

abbrev served_if : Bool → ℕ → List Target → ℕ → ℕ → RegionList → List Note → Scheme → Serving
served_if b slot space aggr tick regions notes scheme =
    let now = with_turn slot tick scheme.quota notes in
    let left = left_then slot tick notes scheme in
    cond b (run_served slot tick left now (outcome_of slot space aggr scheme left regions)) (record { rows = regions.rows; notes = now; runs = []; choices = no_choice slot ∷ [] })

by_active : (slot : ℕ) (space : List Target) (aggr tick : ℕ) (regions : RegionList) (notes : List Note) (scheme : Scheme) (b : Bool) → scheme_of notes slot ≡ Some scheme → is_active_in notes slot scheme ≡ b → serve_slot slot space aggr tick regions notes ≡ served_if b slot space aggr tick regions notes scheme
by_active slot space aggr tick regions notes scheme b is active =
    by_scheme slot space aggr tick regions notes (Some scheme) is
    ∙ ap (λ x. served_if x slot space aggr tick regions notes scheme) (ap (λ (h : SetScheme). h.gauge.active) ((turn_is slot tick scheme.quota notes).counted scheme) ∙ active)

slot_served_best : (slot : ℕ) (space : List Target) (aggr tick : ℕ) (regions : RegionList) (notes : List Note) → AreTiled regions → IsSlotServed slot space aggr tick regions notes (serve_slot slot space aggr tick regions notes)
slot_served_best slot space aggr tick regions notes tiled = record {
  unset = λ is. (ap (λ (y : Serving). y.runs) (by_scheme slot space aggr tick regions notes None is), ap (λ (y : Serving). y.choices) (by_scheme slot space aggr tick regions notes None is));
  inactive = λ scheme is off. (
    ap (λ (y : Serving). y.runs) (by_active slot space aggr tick regions notes scheme false is off),
    ap (λ (y : Serving). y.choices) (by_active slot space aggr tick regions notes scheme false is off),
  );
  active = λ scheme is on. record {
    outcome = outcome_of slot space aggr scheme (left_then slot tick notes scheme) regions;
    best = outcome_best slot aggr space scheme (left_then slot tick notes scheme) regions tiled;
    runs = ap (λ (y : Serving). y.runs) (by_active slot space aggr tick regions notes scheme true is on);
    choices = ap (λ (y : Serving). y.choices) (by_active slot space aggr tick regions notes scheme true is on);
  };
}

abbrev AreSlotsServed : ℕ → ℕ → List Target → ℕ → ℕ → RegionList → List Note → Type 0
AreSlotsServed n slot space aggr tick regions notes =
    EachSlotServed (λ i rs ns y. IsSlotServed i space aggr tick rs ns y) n slot space aggr tick regions notes

slots_served_best : (n slot : ℕ) (space : List Target) (aggr tick : ℕ) (regions : RegionList) (notes : List Note) → AreTiled regions → AreSlotsServed n slot space aggr tick regions notes
slots_served_best zero slot space aggr tick regions notes tiled = tt
slots_served_best (suc n) slot space aggr tick regions notes tiled =
    let first = serve_slot slot space aggr tick regions notes in (
      slot_served_best slot space aggr tick regions notes tiled,
      slots_served_best n (slot + 1) space aggr tick (record regions { rows = first.rows }) first.notes (slot_rows_hold AreTiled outcome_tiled slot space aggr tick regions notes tiled),
    )

-- in each state whose rows tile their ranges
pub serves_best : (s : State) → HasRows s → ServesBest s
serves_best s h = slots_served_best slot_count 0 s.core.space s.core.attrs.aggr s.core.ticks (merged_regions s.core) s.notes (merged_tiled s.core h.wide h.order (rows_of s h))
