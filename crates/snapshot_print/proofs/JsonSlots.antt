-- The values of the slots from one on.
use Rattle.std.proofs.Common.{◌≡◌, ℕ, zero, suc, ◌+◌, ◌<◌, List, [], ◌∷◌, ◌++◌, drop, length, get_or, refl, subst, arith, length-append, ap, ◌∙◌}
use Rattle.scheme_engine.specs.Slots.{SlotValue, empty_slot}
use Rattle.serde_json.specs.Data.{Data}
use Rattle.serde_json.specs.Events.{items_len}
use Rattle.serde_json.specs.View.{items_of}
use Rattle.snapshot_print.specs.Json.{set_slot_json, set_slots_json}

-- the same, where the slots are numbered from k
next_from : (k i : ℕ) (slots : List SlotValue) → i < length slots → set_slots_json (k + i) (drop i slots) ≡ set_slot_json (k + i) (get_or slots i empty_slot) ++ set_slots_json (k + i + 1) (drop (i + 1) slots)
next_from k i [] below = absurd (omega arith)
next_from k zero (s ∷ ss) below = refl
next_from k (suc i) (s ∷ ss) below =
    let next : k + 1 + i ≡ k + suc i = omega arith in
    let after : suc (i + 1) ≡ suc i + 1 = omega arith in
    subst (λ m. set_slots_json (k + suc i) (drop i ss) ≡ set_slot_json (k + suc i) (get_or ss i empty_slot) ++ set_slots_json (k + suc i + 1) (drop m (s ∷ ss))) after
    (subst (λ n. set_slots_json n (drop i ss) ≡ set_slot_json n (get_or ss i empty_slot) ++ set_slots_json (n + 1) (drop (i + 1) ss)) next (next_from (k + 1) i ss (omega arith)))

-- slot i, if it is set, and then those after it
pub set_slots_next : (i : ℕ) (slots : List SlotValue) → i < length slots → set_slots_json i (drop i slots) ≡ set_slot_json i (get_or slots i empty_slot) ++ set_slots_json (i + 1) (drop (i + 1) slots)
set_slots_next i slots below =
    let same : 0 + i ≡ i = omega arith in
    subst (λ n. set_slots_json n (drop i slots) ≡ set_slot_json n (get_or slots i empty_slot) ++ set_slots_json (n + 1) (drop (i + 1) slots)) same (next_from 0 i slots below)

-- how many there are
pub set_slots_length : (i : ℕ) (slots : List SlotValue) → i < length slots → length (set_slots_json i (drop i slots)) ≡ length (set_slot_json i (get_or slots i empty_slot)) + length (set_slots_json (i + 1) (drop (i + 1) slots))
set_slots_length i slots below =
    ap length (set_slots_next i slots below) ∙ length-append (set_slot_json i (get_or slots i empty_slot)) (set_slots_json (i + 1) (drop (i + 1) slots))

-- a list of values has their number of items
pub items_len-items_of : (ds : List Data) → items_len (items_of ds) ≡ length ds
items_len-items_of [] = refl
items_len-items_of (d ∷ ds) = ap suc (items_len-items_of ds)
