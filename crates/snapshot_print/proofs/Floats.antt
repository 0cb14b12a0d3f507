-- No value of a choice or a slot is a float.
use Rattle.std.proofs.Common.{◌≡◌, ℕ, ◌+◌, List, [], ◌∷◌, ◌++◌, Bool, true, false, refl, Some, None}
use Rattle.std.specs.Prelude.{map, ◌||◌, Option}
use Rattle.std.specs.Option.{option_map_or}
use Rattle.scheme_engine.specs.declared.applied.SlotChoice.{SlotChoice}
use Rattle.scheme_engine.specs.declared.slot.SlotView.{SlotView}
use Rattle.scheme_engine.specs.Slots.{SlotValue, slot_view}
use Rattle.serde_json.specs.Data.{Data}
use Rattle.serde_json.specs.Written.{has_float, items_have_float}
use Rattle.serde_json.specs.View.{items_of}
use Rattle.snapshot_print.specs.Json.{choice_json, count_or_null, set_slots_json, slot_json}

neither : (a b : Bool) → a ≡ false → b ≡ false → (a || b) ≡ false
neither false b first second = second
neither true b first second = first

pub in_list : {A : Type 0} → (value : A → Data) → ((x : A) → has_float (value x) ≡ false) → (xs : List A) → items_have_float (items_of (map value xs)) ≡ false
in_list value each [] = refl
in_list value each (x ∷ xs) = neither (has_float (value x)) _ (each x) (in_list value each xs)

in_option : (n : Option ℕ) → has_float (count_or_null n) ≡ false
in_option None = refl
in_option (Some n) = refl

in_slot : (slot : ℕ) (v : Option SlotView) (rest : List Data) → items_have_float (items_of rest) ≡ false → items_have_float (items_of (option_map_or (λ v. slot_json slot v ∷ []) v [] ++ rest)) ≡ false
in_slot slot None rest others = others
in_slot slot (Some v) rest others = others

pub in_slots : (slot : ℕ) (ss : List SlotValue) → items_have_float (items_of (set_slots_json slot ss)) ≡ false
in_slots slot [] = refl
in_slots slot (s ∷ ss) = in_slot slot (slot_view s) (set_slots_json (slot + 1) ss) (in_slots (slot + 1) ss)

pub in_choice : (c : SlotChoice) → has_float (choice_json c) ≡ false
in_choice c = neither _ _ (in_option c.left) (neither _ _ (in_option c.lowest) refl)
