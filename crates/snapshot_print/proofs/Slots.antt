-- The lines of the slots from one on.
use Rattle.std.proofs.Common.{◌≡◌, ℕ, zero, suc, ◌+◌, ◌<◌, List, [], ◌∷◌, ◌++◌, drop, length, get_or, refl, subst, arith}
use Rattle.scheme_engine.specs.Slots.{SlotValue, empty_slot}
use Rattle.snapshot_print.specs.Schemes.{shown_slot, shown_slots}

-- the same, where the slots are numbered from k
shown_next : (k i : ℕ) (slots : List SlotValue) → i < length slots → shown_slots (k + i) (drop i slots) ≡ shown_slot (k + i) (get_or slots i empty_slot) ++ shown_slots (k + i + 1) (drop (i + 1) slots)
shown_next k i [] below = absurd (omega arith)
shown_next k zero (s ∷ ss) below = refl
shown_next k (suc i) (s ∷ ss) below =
    let next : k + 1 + i ≡ k + suc i = omega arith in
    let after : suc (i + 1) ≡ suc i + 1 = omega arith in
    subst (λ m. shown_slots (k + suc i) (drop i ss) ≡ shown_slot (k + suc i) (get_or ss i empty_slot) ++ shown_slots (k + suc i + 1) (drop m (s ∷ ss))) after
    (subst (λ n. shown_slots n (drop i ss) ≡ shown_slot n (get_or ss i empty_slot) ++ shown_slots (n + 1) (drop (i + 1) ss)) next (shown_next (k + 1) i ss (omega arith)))

-- the line of slot i, if it is set, and then the lines of those after it
pub shown_slots_next : (i : ℕ) (slots : List SlotValue) → i < length slots → shown_slots i (drop i slots) ≡ shown_slot i (get_or slots i empty_slot) ++ shown_slots (i + 1) (drop (i + 1) slots)
shown_slots_next i slots below =
    let same : 0 + i ≡ i = omega arith in
    subst (λ n. shown_slots n (drop i slots) ≡ shown_slot n (get_or slots i empty_slot) ++ shown_slots (n + 1) (drop (i + 1) slots)) same (shown_next 0 i slots below)
