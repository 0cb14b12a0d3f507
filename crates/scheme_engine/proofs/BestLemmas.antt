-- A set slot that is served, by whether it is active; each slot is served best.
use Rattle.std.proofs.Common.{◌≡◌, ℕ, ◌+◌, Bool, true, false, cond, List, [], ◌∷◌, Option, Some, refl, sym, ap, ◌∙◌}
use Rattle.damon_types.specs.declared.scheme.Scheme.{Scheme}
use Rattle.damon_types.specs.declared.space.Target.{Target}
use Rattle.region_list.specs.Regions.{RegionList}
use Rattle.scheme_engine.specs.Best.{AreServedBest, IsServedBest}
use Rattle.scheme_engine.specs.Kept.{AreTiled}
use Rattle.scheme_engine.specs.Outcome.{Outcome, outcome_of}
use Rattle.scheme_engine.specs.Served.{ServedSlot, left_in, no_choice, scheme_served, slot_counted, slot_run, slot_served}
use Rattle.scheme_engine.specs.Slots.{SetScheme, SlotValue, turned_slot}
use Rattle.scheme_engine.proofs.OutcomeLemmas.{outcome_best}
use Rattle.scheme_engine.proofs.SlotLemmas.{slot_tiled}

-- a set slot that is served, by whether it is active
abbrev served_if : Bool → ℕ → List Target → ℕ → RegionList → SlotValue → SetScheme → ServedSlot
served_if b slot space aggr regions t h = cond b (slot_run slot (left_in t) t (outcome_of slot space aggr h.scheme (left_in t) regions)) (record { slot = t; rows = regions.rows; runs = []; choices = no_choice slot ∷ [] })

by_active : (slot : ℕ) (space : List Target) (aggr tick : ℕ) (regions : RegionList) (s : SlotValue) (h : SetScheme) (b : Bool) → s.set ≡ Some h → h.gauge.active ≡ b → slot_served slot space aggr tick regions s ≡ served_if b slot space aggr regions (turned_slot tick s) h
by_active slot space aggr tick regions s h b is active =
    ap (scheme_served slot space aggr regions (turned_slot tick s)) is ∙ ap (λ v. served_if v slot space aggr regions (turned_slot tick s) h) active

-- a slot whose window is that of the tick, and whose scheme was run with what is left of its quota, was served
pub slot_ran : (slot : ℕ) (space : List Target) (aggr tick : ℕ) (regions : RegionList) (s t : SlotValue) (h : SetScheme) (scheme : Scheme) (left : Option ℕ) → t ≡ turned_slot tick s → t.set ≡ Some h → h.gauge.active ≡ true → scheme ≡ h.scheme → left ≡ left_in t → slot_run slot left t (outcome_of slot space aggr scheme left regions) ≡ slot_served slot space aggr tick regions s
slot_ran slot space aggr tick regions s t h scheme left turned is active scheme_is left_is =
    ap (λ k. slot_run slot left t (outcome_of slot space aggr k left regions)) scheme_is
    ∙ ap (λ l. slot_run slot l t (outcome_of slot space aggr h.scheme l regions)) left_is
    ∙ ap (λ (u : SlotValue). slot_run slot (left_in u) u (outcome_of slot space aggr h.scheme (left_in u) regions)) turned
    ∙ sym (by_active slot space aggr tick regions s h true (ap (λ (u : SlotValue). u.set) (sym turned) ∙ is) active)

-- what counting a run makes of a slot, by its outcome
pub counted_as : (s : SlotValue) (o : Outcome) {tried taken : ℕ} {exceeds : Bool} → tried ≡ o.tried → taken ≡ o.taken → exceeds ≡ o.exceeds → slot_counted tried taken exceeds s ≡ slot_counted o.tried o.taken o.exceeds s
counted_as s o tried taken exceeds = rw (tried, taken, exceeds) refl

slot_served_best : (slot : ℕ) (space : List Target) (aggr tick : ℕ) (regions : RegionList) (s : SlotValue) → AreTiled regions → IsServedBest slot space aggr tick regions s (slot_served slot space aggr tick regions s)
slot_served_best slot space aggr tick regions s tiled = record {
  unset = λ is. (
    ap (λ o. (scheme_served slot space aggr regions (turned_slot tick s) o).runs) is,
    ap (λ o. (scheme_served slot space aggr regions (turned_slot tick s) o).choices) is,
  );
  inactive = λ h is off. (
    ap (λ (y : ServedSlot). y.runs) (by_active slot space aggr tick regions s h false is off),
    ap (λ (y : ServedSlot). y.choices) (by_active slot space aggr tick regions s h false is off),
  );
  active = λ h is on. record {
    outcome = outcome_of slot space aggr h.scheme (left_in (turned_slot tick s)) regions;
    best = outcome_best slot aggr space h.scheme (left_in (turned_slot tick s)) regions tiled;
    runs = ap (λ (y : ServedSlot). y.runs) (by_active slot space aggr tick regions s h true is on);
    choices = ap (λ (y : ServedSlot). y.choices) (by_active slot space aggr tick regions s h true is on);
  };
}

-- all slots, in order
pub served_best : (slot aggr tick : ℕ) (space : List Target) (regions : RegionList) (slots : List SlotValue) → AreTiled regions → AreServedBest slot space aggr tick regions slots
served_best slot aggr tick space regions [] tiled = tt
served_best slot aggr tick space regions (s ∷ ss) tiled = (
  slot_served_best slot space aggr tick regions s tiled,
  served_best (slot + 1) aggr tick space (record regions { rows = (slot_served slot space aggr tick regions s).rows }) ss (slot_tiled slot space aggr tick regions s tiled),
)
