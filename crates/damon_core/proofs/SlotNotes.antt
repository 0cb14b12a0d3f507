-- What the notes say of the slots once there is a note more of a set or dropped slot, of a metric, of a cost, of a window, or of a run.
use Rattle.std.proofs.Common.{◌≡◌, ℕ, zero, suc, ◌+◌, ◌-◌, ◌^◌, ◌<◌, ◌≤◌, min, Bool, true, false, List, [], ◌∷◌, map, set as put, get_or, Option, Some, None, refl, sym, ap, ◌∙◌, cond, arith}
use Rattle.std.specs.Prelude.{◌==◌, if◌then◌else◌, replicate}
use Rattle.std.specs.List.{range_with_len}
use Rattle.std.specs.Option.{option_map}
use Rattle.std.proofs.lemmas.Bool.Decides.{nat_tests}
use Rattle.std.proofs.lemmas.List.FromFn.{get_or-map-range_with_len}
use Rattle.damon_types.specs.declared.scheme.TheConstants.{MAX_SLOT}
use Rattle.damon_types.specs.declared.scheme.Scheme.{Scheme}
use Rattle.watermarks.specs.Active.{is_active}
use Rattle.scheme_engine.specs.declared.applied.AppliedRun.{AppliedRun}
use Rattle.scheme_engine.specs.declared.slot.TheConstants.{SLOTS}
use Rattle.scheme_engine.specs.Served.{scheme_counted, slot_counted}
use Rattle.scheme_engine.specs.Slots.{SetScheme, SlotValue, changed, costed, empty_slot, metered, scheme_metered}
use Rattle.watermarks.proofs.Lemmas.{is_active-push}
use Rattle.damon_core.specs.Note.{Note, set, dropped, metric, turned, ran, cost}
use Rattle.damon_core.specs.Slots.{charged_of, cost_of, is_active_in, metrics_of, nanos_measured, pages_in, pages_of_runs, scheme_of, set_scheme_of, slot_count, slot_of, slots_of, start_of, tried_of, applied_of, exceeds_of}

pub differ : (i j : ℕ) → (i ≡ j → ⊥) → (i == j) ≡ false
differ i j apart = grind (arith, nat_tests)

pub same : (i : ℕ) → (i == i) ≡ true
same i = grind (arith, nat_tests)

-- ---- a window begins

abbrev turned_if : Bool → ℕ → List Note → ℕ → SlotValue
turned_if b tick notes j = record {
  set = option_map (λ scheme. set_scheme_of notes j scheme) (scheme_of notes j);
  window = record { start = if b then tick else start_of notes j; charged = if b then 0 else charged_of notes j };
  cost = cost_of notes j;
}

pub turned-other : (i tick j : ℕ) (notes : List Note) → (i ≡ j → ⊥) → slot_of (turned i tick ∷ notes) j ≡ slot_of notes j
turned-other i tick j notes apart = ap (λ b. turned_if b tick notes j) (differ i j apart)

-- ---- a scheme is run

abbrev ran_if : Bool → ℕ → List AppliedRun → Bool → List Note → ℕ → SlotValue
ran_if b tried runs exceeds notes j = record {
  set = option_map (λ scheme. record {
    scheme = scheme;
    gauge = record { marks = scheme.marks; active = is_active_in notes j scheme };
    tried = if b then tried_of notes j + tried else tried_of notes j;
    applied = if b then applied_of notes j + pages_in runs else applied_of notes j;
    exceeds = if b then exceeds_of notes j + cond exceeds 1 0 else exceeds_of notes j;
  }) (scheme_of notes j);
  window = record { start = start_of notes j; charged = if b then charged_of notes j + pages_in runs else charged_of notes j };
  cost = record { pages = if b then pages_of_runs notes j + pages_in runs else pages_of_runs notes j; nanos = (cost_of notes j).nanos };
}

pub ran-other : (i tick tried : ℕ) (runs : List AppliedRun) (exceeds : Bool) (j : ℕ) (notes : List Note) → (i ≡ j → ⊥) → slot_of (ran i tick tried runs exceeds ∷ notes) j ≡ slot_of notes j
ran-other i tick tried runs exceeds j notes apart = ap (λ b. ran_if b tried runs exceeds notes j) (differ i j apart)

counted-map : (tried taken : ℕ) (exceeds : Bool) (notes : List Note) (i : ℕ) (o : Option Scheme)
    → option_map (λ scheme. scheme_counted tried taken exceeds (set_scheme_of notes i scheme)) o
    ≡ option_map (scheme_counted tried taken exceeds) (option_map (λ scheme. set_scheme_of notes i scheme) o)
counted-map tried taken exceeds notes i None = refl
counted-map tried taken exceeds notes i (Some scheme) = refl

pub ran-same : (i tick tried : ℕ) (runs : List AppliedRun) (exceeds : Bool) (notes : List Note) → slot_of (ran i tick tried runs exceeds ∷ notes) i ≡ slot_counted tried (pages_in runs) exceeds (slot_of notes i)
ran-same i tick tried runs exceeds notes =
    ap (λ b. ran_if b tried runs exceeds notes i) (same i)
    ∙ ap (λ (h : Option SetScheme). record { set = h; window = record { start = start_of notes i; charged = charged_of notes i + pages_in runs }; cost = record (cost_of notes i) { pages = pages_of_runs notes i + pages_in runs } }) (counted-map tried (pages_in runs) exceeds notes i (scheme_of notes i))

-- ---- a slot is set or dropped

abbrev set_if : Bool → Scheme → List Note → ℕ → SlotValue
set_if b scheme notes j = record {
  set = option_map (λ s. record {
    scheme = s;
    gauge = record { marks = s.marks; active = is_active s.marks (if b then [] else metrics_of notes j) };
    tried = if b then 0 else tried_of notes j;
    applied = if b then 0 else applied_of notes j;
    exceeds = if b then 0 else exceeds_of notes j;
  }) (if b then Some scheme else scheme_of notes j);
  window = record { start = start_of notes j; charged = charged_of notes j };
  cost = cost_of notes j;
}

set-other : (i j : ℕ) (scheme : Scheme) (notes : List Note) → (i ≡ j → ⊥) → slot_of (set i scheme ∷ notes) j ≡ slot_of notes j
set-other i j scheme notes apart = ap (λ b. set_if b scheme notes j) (differ i j apart)

set-same : (i : ℕ) (scheme : Scheme) (notes : List Note) → slot_of (set i scheme ∷ notes) i ≡ changed (Some scheme) (slot_of notes i)
set-same i scheme notes = ap (λ b. set_if b scheme notes i) (same i)

abbrev dropped_if : Bool → List Note → ℕ → SlotValue
dropped_if b notes j = record {
  set = option_map (λ scheme. set_scheme_of notes j scheme) (if b then None else scheme_of notes j);
  window = record { start = start_of notes j; charged = charged_of notes j };
  cost = cost_of notes j;
}

dropped-other : (i j : ℕ) (notes : List Note) → (i ≡ j → ⊥) → slot_of (dropped i ∷ notes) j ≡ slot_of notes j
dropped-other i j notes apart = ap (λ b. dropped_if b notes j) (differ i j apart)

dropped-same : (i : ℕ) (notes : List Note) → slot_of (dropped i ∷ notes) i ≡ changed None (slot_of notes i)
dropped-same i notes = ap (λ b. dropped_if b notes i) (same i)

-- a list made by another function of the index, which differs at one index
map_but_one : (f g : ℕ → SlotValue) (from n at i : ℕ) → from + at ≡ i → ((j : ℕ) → (i ≡ j → ⊥) → g j ≡ f j) → at < n
    → map g (range_with_len from n) ≡ put (map f (range_with_len from n)) at (g i)
map_but_one f g from zero at i is others below = absurd (omega arith)
map_but_one f g from (suc n) zero i is others below =
    let here : from ≡ i = omega arith in
    ap (λ x. x ∷ map g (range_with_len (from + 1) n)) (ap g here) ∙ ap (λ xs. g i ∷ xs) (map_above f g (from + 1) n i (omega arith) others)
  where
    map_above : (f g : ℕ → SlotValue) (from n i : ℕ) → i < from → ((j : ℕ) → (i ≡ j → ⊥) → g j ≡ f j) → map g (range_with_len from n) ≡ map f (range_with_len from n)
    map_above f g from zero i above others = refl
    map_above f g from (suc n) i above others =
        ap (λ x. x ∷ map g (range_with_len (from + 1) n)) (others from (λ e. absurd (omega arith)))
        ∙ ap (λ xs. f from ∷ xs) (map_above f g (from + 1) n i (omega arith) others)
map_but_one f g from (suc n) (suc at) i is others below =
    ap (λ x. x ∷ map g (range_with_len (from + 1) n)) (others from (λ e. absurd (omega arith)))
    ∙ ap (λ xs. f from ∷ xs) (map_but_one f g (from + 1) n at i (omega arith) others (omega arith))

-- a slot that exists is one of those that are counted
pub slot_counted_below : (i : ℕ) → i ≤ MAX_SLOT → i < slot_count
unfolding slot_count
slot_counted_below i most = omega arith

-- the slots once one of them is another
one_slot : (old new : List Note) (i : ℕ) (x : SlotValue) → i < slot_count → slot_of new i ≡ x → ((j : ℕ) → (i ≡ j → ⊥) → slot_of new j ≡ slot_of old j) → slots_of new ≡ put (slots_of old) i x
one_slot old new i x below is others = map_but_one (slot_of old) (slot_of new) 0 slot_count i i (omega arith) others below ∙ ap (put (map (slot_of old) (range_with_len 0 slot_count)) i) is

pub slot_at : (notes : List Note) (i : ℕ) → i < slot_count → get_or (slots_of notes) i empty_slot ≡ slot_of notes i
slot_at notes i below = get_or-map-range_with_len (slot_of notes) 0 slot_count i i empty_slot below (omega arith)

pub slots_of-set : (i : ℕ) (scheme : Scheme) (notes : List Note) → i < slot_count → slots_of (set i scheme ∷ notes) ≡ put (slots_of notes) i (changed (Some scheme) (get_or (slots_of notes) i empty_slot))
slots_of-set i scheme notes below = one_slot notes (set i scheme ∷ notes) i _ below (set-same i scheme notes ∙ ap (changed (Some scheme)) (sym (slot_at notes i below))) (λ j apart. set-other i j scheme notes apart)

pub slots_of-dropped : (i : ℕ) (notes : List Note) → i < slot_count → slots_of (dropped i ∷ notes) ≡ put (slots_of notes) i (changed None (get_or (slots_of notes) i empty_slot))
slots_of-dropped i notes below = one_slot notes (dropped i ∷ notes) i _ below (dropped-same i notes ∙ ap (changed None) (sym (slot_at notes i below))) (λ j apart. dropped-other i j notes apart)

-- ---- a metric

metered-set : (value j : ℕ) (notes : List Note) (o : Option Scheme)
    → option_map (λ scheme. set_scheme_of (metric value ∷ notes) j scheme) o ≡ option_map (scheme_metered value) (option_map (λ scheme. set_scheme_of notes j scheme) o)
metered-set value j notes None = refl
metered-set value j notes (Some s) =
    ap (λ active. Some (record { scheme = s; gauge = record { marks = s.marks; active = active }; tried = tried_of notes j; applied = applied_of notes j; exceeds = exceeds_of notes j }))
    (is_active-push s.marks (metrics_of notes j) value)

slot_of-metric : (value j : ℕ) (notes : List Note) → slot_of (metric value ∷ notes) j ≡ metered value (slot_of notes j)
slot_of-metric value j notes =
    ap (λ (h : Option SetScheme). record { set = h; window = record { start = start_of notes j; charged = charged_of notes j }; cost = cost_of notes j }) (metered-set value j notes (scheme_of notes j))

map_metered : (value : ℕ) (notes : List Note) (js : List ℕ) → map (slot_of (metric value ∷ notes)) js ≡ map (metered value) (map (slot_of notes) js)
map_metered value notes [] = refl
map_metered value notes (j ∷ js) =
    ap (λ x. x ∷ map (slot_of (metric value ∷ notes)) js) (slot_of-metric value j notes) ∙ ap (λ xs. metered value (slot_of notes j) ∷ xs) (map_metered value notes js)

pub slots_of-metric : (value : ℕ) (notes : List Note) → slots_of (metric value ∷ notes) ≡ map (metered value) (slots_of notes)
slots_of-metric value notes = map_metered value notes (range_with_len 0 slot_count)

-- ---- a cost

-- a sum that stops at a limit, once more is added to it
min_more : (sum more most : ℕ) → min (sum + more) most ≡ min (min sum most + more) most
min_more sum more most = omega arith

abbrev cost_if : Bool → ℕ → List Note → ℕ → SlotValue
cost_if b nanos notes j = record {
  set = option_map (λ scheme. set_scheme_of notes j scheme) (scheme_of notes j);
  window = record { start = start_of notes j; charged = charged_of notes j };
  cost = record { pages = pages_of_runs notes j; nanos = min (if b then nanos_measured notes j + nanos else nanos_measured notes j) (2 ^ 64 - 1) };
}

cost-other : (i nanos j : ℕ) (notes : List Note) → (i ≡ j → ⊥) → slot_of (cost i nanos ∷ notes) j ≡ slot_of notes j
cost-other i nanos j notes apart = ap (λ b. cost_if b nanos notes j) (differ i j apart)

cost-same : (i nanos : ℕ) (notes : List Note) → slot_of (cost i nanos ∷ notes) i ≡ costed nanos (slot_of notes i)
cost-same i nanos notes =
    ap (λ b. cost_if b nanos notes i) (same i)
    ∙ ap (λ n. record (slot_of notes i) { cost = record (cost_of notes i) { nanos = n } }) (min_more (nanos_measured notes i) nanos (2 ^ 64 - 1))

pub slots_of-cost : (i nanos : ℕ) (notes : List Note) → i < slot_count → slots_of (cost i nanos ∷ notes) ≡ put (slots_of notes) i (costed nanos (get_or (slots_of notes) i empty_slot))
slots_of-cost i nanos notes below = one_slot notes (cost i nanos ∷ notes) i _ below (cost-same i nanos notes ∙ ap (costed nanos) (sym (slot_at notes i below))) (λ j apart. cost-other i nanos j notes apart)

-- ---- no notes

no_slots : (n from : ℕ) → map (slot_of []) (range_with_len from n) ≡ replicate n empty_slot
no_slots zero from = refl
no_slots (suc n) from = ap (λ xs. empty_slot ∷ xs) (no_slots n (from + 1))

pub slots_of-none : slots_of [] ≡ replicate SLOTS empty_slot
unfolding slot_count
slots_of-none = no_slots SLOTS 0
