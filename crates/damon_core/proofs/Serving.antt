-- Serving the slots of a monitor, and serving those that the notes tell of, come to the same.
use Rattle.std.proofs.Common.{◌≡◌, ℕ, zero, suc, ◌+◌, ◌<◌, Bool, true, false, List, [], ◌∷◌, ◌++◌, map, Option, Some, None, refl, sym, ap, ◌∙◌, subst, arith}
use Rattle.std.specs.Prelude.{if◌then◌else◌}
use Rattle.std.specs.List.{range_with_len}
use Rattle.std.specs.Option.{option_map, option_map_or}
use Rattle.damon_types.specs.declared.scheme.Quota.{Quota}
use Rattle.damon_types.specs.declared.scheme.Scheme.{Scheme}
use Rattle.damon_types.specs.declared.space.Target.{Target}
use Rattle.region_list.specs.Regions.{RegionList}
use Rattle.quota_charge.specs.declared.cost.Cost.{Cost}
use Rattle.quota_charge.specs.declared.window.Window.{Window}
use Rattle.quota_charge.specs.Quota.{has_ended, left_of}
use Rattle.scheme_engine.specs.Kept.{AreTiled}
use Rattle.scheme_engine.specs.Outcome.{outcome_of}
use Rattle.scheme_engine.specs.Served.{ServedSlot, Served, no_choice, slot_counted, slot_run, slot_served, slots_served}
use Rattle.scheme_engine.specs.Slots.{SetScheme, SlotValue, window_at}
use Rattle.scheme_engine.proofs.Lemmas.{outcome_sum, outcome_tiled}
use Rattle.damon_core.specs.Note.{Note, turned}
use Rattle.damon_core.specs.Aggregate.{IsServedAlike, merged_regions}
use Rattle.damon_core.specs.State.{State}
use Rattle.damon_core.specs.Serve.{Serving, nothing_served, serve_scheme, serve_slot, serve_slots, with_turn}
use Rattle.damon_core.specs.Slots.{charged_of, cost_of, is_active_in, scheme_of, set_scheme_of, slot_count, slot_of, start_of}
use Rattle.damon_core.proofs.SlotNotes.{same, ran-other, ran-same, turned-other}
use Rattle.damon_core.proofs.ServeParts.{run_served}

-- the window of a slot, by the notes
abbrev pub window_of : List Note → ℕ → Window
window_of notes slot = record { start = start_of notes slot; charged = charged_of notes slot }

-- what holds of notes to which that of a window may have been added
pub record TurnIs (slot : ℕ) (notes now : List Note) (window : Window) : Type 0 where
  pub begins : window_of now slot ≡ window
  pub cost : cost_of now slot ≡ cost_of notes slot
  pub scheme : scheme_of now slot ≡ scheme_of notes slot
  pub counted : (s : Scheme) → set_scheme_of now slot s ≡ set_scheme_of notes slot s
  pub others : (j : ℕ) → (slot ≡ j → ⊥) → slot_of now j ≡ slot_of notes j

turn_of : (b : Bool) (slot tick : ℕ) (notes : List Note) → TurnIs slot notes (if b then turned slot tick ∷ notes else notes) (if b then record { start = tick; charged = 0 } else window_of notes slot)
turn_of true slot tick notes = record {
  begins = ap (λ b. record { start = if b then tick else start_of notes slot; charged = if b then 0 else charged_of notes slot }) (same slot);
  cost = refl;
  scheme = refl;
  counted = λ s. refl;
  others = λ j apart. turned-other slot tick j notes apart;
}
turn_of false slot tick notes = record { begins = refl; cost = refl; scheme = refl; counted = λ s. refl; others = λ j apart. refl }

pub turn_is : (slot tick : ℕ) (quota : Option Quota) (notes : List Note) → TurnIs slot notes (with_turn slot tick quota notes) (window_at tick quota (window_of notes slot))
turn_is slot tick None notes = turn_of false slot tick notes
turn_is slot tick (Some q) notes = turn_of (has_ended q (start_of notes slot) tick) slot tick notes

-- a slot of the engine and the notes of it were served alike
record AsServed (slot : ℕ) (regions : RegionList) (notes : List Note) (x : ServedSlot) (y : Serving) : Type 0 where
  pub slots : x.slot ≡ slot_of y.notes slot
  pub rows : x.rows ≡ y.rows
  pub runs : x.runs ≡ y.runs
  pub choices : x.choices ≡ y.choices
  pub others : (j : ℕ) → (slot ≡ j → ⊥) → slot_of y.notes j ≡ slot_of notes j
  pub tiled : AreTiled (record regions { rows = y.rows })

-- a set slot of the engine that is served, by whether it is active, and by its window and cost
abbrev set_served : ℕ → List Target → ℕ → RegionList → Scheme → SetScheme → Bool → Window → Cost → ServedSlot
set_served slot space aggr regions scheme h active window cost =
    let s : SlotValue = record { set = Some h; window = window; cost = cost } in
    let left = left_of scheme.quota cost window.charged in
    if active then slot_run slot left s (outcome_of slot space aggr scheme left regions)
    else record { slot = s; rows = regions.rows; runs = []; choices = no_choice slot ∷ [] }

-- the same by the notes
abbrev notes_served : ℕ → List Target → ℕ → ℕ → RegionList → List Note → Scheme → Bool → Serving
notes_served slot space aggr tick regions now scheme active =
    let left = left_of scheme.quota (cost_of now slot) (charged_of now slot) in
    if active then run_served slot tick left now (outcome_of slot space aggr scheme left regions)
    else record { rows = regions.rows; notes = now; runs = []; choices = no_choice slot ∷ [] }

set_alike : (slot : ℕ) (space : List Target) (aggr tick : ℕ) (regions : RegionList) (notes now : List Note) (scheme : Scheme) (window : Window) (active : Bool) → AreTiled regions → scheme_of notes slot ≡ Some scheme → TurnIs slot notes now window
    → AsServed slot regions notes (set_served slot space aggr regions scheme (set_scheme_of notes slot scheme) active (window_of now slot) (cost_of now slot)) (notes_served slot space aggr tick regions now scheme active)
set_alike slot space aggr tick regions notes now scheme window true tiled is turn =
    let left = left_of scheme.quota (cost_of now slot) (charged_of now slot) in
    let o = outcome_of slot space aggr scheme left regions in
    record {
      slots =
          ap (λ (s : SlotValue). slot_counted o.tried o.taken o.exceeds s) (set_here slot notes now scheme window is turn)
          ∙ ap (λ n. slot_counted o.tried n o.exceeds (slot_of now slot)) (sym (outcome_sum slot aggr space scheme left regions tiled))
          ∙ sym (ran-same slot tick o.tried o.runs o.exceeds now);
      rows = refl;
      runs = refl;
      choices = refl;
      others = λ j apart. ran-other slot tick o.tried o.runs o.exceeds j now apart ∙ turn.others j apart;
      tiled = outcome_tiled slot aggr space scheme left regions tiled;
    }
  where
    set_here : (slot : ℕ) (notes now : List Note) (scheme : Scheme) (window : Window) → scheme_of notes slot ≡ Some scheme → TurnIs slot notes now window → record { set = Some (set_scheme_of notes slot scheme); window = window_of now slot; cost = cost_of now slot } ≡ slot_of now slot
    set_here slot notes now scheme window is turn =
        ap (λ (h : SetScheme). record { set = Some h; window = window_of now slot; cost = cost_of now slot }) (sym (turn.counted scheme))
        ∙ ap (λ (o : Option Scheme). record { set = option_map (λ s. set_scheme_of now slot s) o; window = window_of now slot; cost = cost_of now slot }) (sym (turn.scheme ∙ is))
set_alike slot space aggr tick regions notes now scheme window false tiled is turn = record {
  slots =
      ap (λ (h : SetScheme). record { set = Some h; window = window_of now slot; cost = cost_of now slot }) (sym (turn.counted scheme))
      ∙ ap (λ (o : Option Scheme). record { set = option_map (λ s. set_scheme_of now slot s) o; window = window_of now slot; cost = cost_of now slot }) (sym (turn.scheme ∙ is));
  rows = refl;
  runs = refl;
  choices = refl;
  others = turn.others;
  tiled = tiled;
}

-- a slot of the engine, by its scheme
abbrev slot_by : ℕ → List Note → Option Scheme → SlotValue
slot_by slot notes o = record { set = option_map (λ s. set_scheme_of notes slot s) o; window = window_of notes slot; cost = cost_of notes slot }

by_scheme : (slot : ℕ) (space : List Target) (aggr tick : ℕ) (regions : RegionList) (notes : List Note) (o : Option Scheme) → AreTiled regions → scheme_of notes slot ≡ o
    → AsServed slot regions notes (slot_served slot space aggr tick regions (slot_by slot notes o)) (option_map_or (serve_scheme slot space aggr tick regions notes) o (nothing_served regions notes))
by_scheme slot space aggr tick regions notes None tiled is = record {
  slots = ap (slot_by slot notes) (sym is);
  rows = refl;
  runs = refl;
  choices = refl;
  others = λ j apart. refl;
  tiled = tiled;
}
by_scheme slot space aggr tick regions notes (Some scheme) tiled is =
    let now = with_turn slot tick scheme.quota notes in
    let turn = turn_is slot tick scheme.quota notes in
    let active : is_active_in now slot scheme ≡ is_active_in notes slot scheme = ap (λ (h : SetScheme). h.gauge.active) (turn.counted scheme) in
    let alike = set_alike slot space aggr tick regions notes now scheme (window_at tick scheme.quota (window_of notes slot)) (is_active_in now slot scheme) tiled is turn in
    let served : Bool → Window → Cost → ServedSlot = λ b w cost. set_served slot space aggr regions scheme (set_scheme_of notes slot scheme) b w cost in
    let AsHere : ServedSlot → Type 0 = λ x. AsServed slot regions notes x (serve_scheme slot space aggr tick regions notes scheme) in
    subst (λ (w : Window). AsHere (served (is_active_in notes slot scheme) w (cost_of notes slot))) turn.begins
    (subst (λ (k : Cost). AsHere (served (is_active_in notes slot scheme) (window_of now slot) k)) turn.cost
    (subst (λ b. AsHere (served b (window_of now slot) (cost_of now slot))) active alike))

one_alike : (slot : ℕ) (space : List Target) (aggr tick : ℕ) (regions : RegionList) (notes : List Note) → AreTiled regions
    → AsServed slot regions notes (slot_served slot space aggr tick regions (slot_of notes slot)) (serve_slot slot space aggr tick regions notes)
one_alike slot space aggr tick regions notes tiled = by_scheme slot space aggr tick regions notes (scheme_of notes slot) tiled refl

-- slots of the engine and the notes of them were served alike
pub record AreServed (slot n : ℕ) (regions : RegionList) (notes : List Note) (x : Served) (y : Serving) : Type 0 where
  pub slots : x.slots ≡ map (slot_of y.notes) (range_with_len slot n)
  pub rows : x.rows ≡ y.rows
  pub runs : x.runs ≡ y.runs
  pub choices : x.choices ≡ y.choices
  pub before : (j : ℕ) → j < slot → slot_of y.notes j ≡ slot_of notes j
  pub tiled : AreTiled (record regions { rows = y.rows })

-- the slots above one are as before
slots_above : (old new : List Note) (from n i : ℕ) → i < from → ((j : ℕ) → (i ≡ j → ⊥) → slot_of new j ≡ slot_of old j) → map (slot_of old) (range_with_len from n) ≡ map (slot_of new) (range_with_len from n)
slots_above old new from zero i above others = refl
slots_above old new from (suc n) i above others =
    ap (λ x. x ∷ map (slot_of old) (range_with_len (from + 1) n)) (sym (others from (λ e. absurd (omega arith))))
    ∙ ap (λ xs. slot_of new from ∷ xs) (slots_above old new (from + 1) n i (omega arith) others)

pub slots_alike : (n slot : ℕ) (space : List Target) (aggr tick : ℕ) (regions : RegionList) (notes : List Note) → AreTiled regions
    → AreServed slot n regions notes (slots_served slot space aggr tick regions (map (slot_of notes) (range_with_len slot n))) (serve_slots n slot space aggr tick regions notes)
slots_alike zero slot space aggr tick regions notes tiled = record { slots = refl; rows = refl; runs = refl; choices = refl; before = λ j below. refl; tiled = tiled }
slots_alike (suc n) slot space aggr tick regions notes tiled =
    let x = slot_served slot space aggr tick regions (slot_of notes slot) in
    let y = serve_slot slot space aggr tick regions notes in
    let one = one_alike slot space aggr tick regions notes tiled in
    let next : RegionList = record regions { rows = y.rows } in
    let more = slots_alike n (slot + 1) space aggr tick next y.notes one.tiled in
    let Y = serve_slots n (slot + 1) space aggr tick next y.notes in
    let is : slots_served (slot + 1) space aggr tick (record regions { rows = x.rows }) (map (slot_of notes) (range_with_len (slot + 1) n)) ≡ slots_served (slot + 1) space aggr tick next (map (slot_of y.notes) (range_with_len (slot + 1) n)) =
    ap (λ rows. slots_served (slot + 1) space aggr tick (record regions { rows = rows }) (map (slot_of notes) (range_with_len (slot + 1) n))) one.rows
    ∙ ap (slots_served (slot + 1) space aggr tick next) (slots_above notes y.notes (slot + 1) n slot (omega arith) one.others) in
    record {
      slots =
          ap (λ (s : SlotValue). s ∷ (slots_served (slot + 1) space aggr tick (record regions { rows = x.rows }) (map (slot_of notes) (range_with_len (slot + 1) n))).slots) (one.slots ∙ sym (more.before slot (omega arith)))
          ∙ ap (λ (ss : List SlotValue). slot_of Y.notes slot ∷ ss) (ap (λ (o : Served). o.slots) is ∙ more.slots);
      rows = ap (λ (o : Served). o.rows) is ∙ more.rows;
      runs = ap (λ rs. rs ++ (slots_served (slot + 1) space aggr tick (record regions { rows = x.rows }) (map (slot_of notes) (range_with_len (slot + 1) n))).runs) one.runs ∙ ap (λ rs. y.runs ++ rs) (ap (λ (o : Served). o.runs) is ∙ more.runs);
      choices = ap (λ cs. cs ++ (slots_served (slot + 1) space aggr tick (record regions { rows = x.rows }) (map (slot_of notes) (range_with_len (slot + 1) n))).choices) one.choices ∙ ap (λ cs. y.choices ++ cs) (ap (λ (o : Served). o.choices) is ∙ more.choices);
      before = λ j below. more.before j (omega arith) ∙ one.others j (λ e. absurd (omega arith));
      tiled = more.tiled;
    }

-- the slots of a state whose merged rows tile their ranges
pub served_alike : (s : State) → AreTiled (merged_regions s.core) → IsServedAlike s
served_alike s tiled =
    let alike = slots_alike slot_count 0 s.core.space s.core.attrs.aggr s.core.ticks (merged_regions s.core) s.notes tiled in
    record { slots = alike.slots; rows = alike.rows; runs = alike.runs; choices = alike.choices }
