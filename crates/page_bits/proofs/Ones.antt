-- The ones between two bits of a word.
use Rattle.std.proofs.Common.{◌≡◌, ℕ, ◌-◌, ◌*◌, ◌/◌, ◌%◌, ◌^◌, min, ◌≤◌, ◌<◌, Bool, true, false, cond, ◌&&◌, refl, ap, ◌∙◌, arith}
use Rattle.std.specs.Prelude.{◌==◌, bit_and, nat_le, nat_lt}
use Rattle.std.specs.Int.{bit_at}
use Rattle.std.proofs.lemmas.Bool.Decides.{nat_tests}
use Rattle.std.proofs.lemmas.Nat.Bits.{bit_at_and, bit_at_mask_below, bit_at_mask_inside, bit_at_ones, bit_at_ones_above, ones_shl, ones_shr}
use Rattle.page_bits.specs.Bits.{is_set}

and_digit : (a b : ℕ) (p q : Bool) → a ≡ cond p 1 0 → b ≡ cond q 1 0 → (min a b == 1) ≡ (p && q)
and_digit a b true true e f = ap (λ n. min n b == 1) e ∙ ap (λ n. min 1 n == 1) f
and_digit a b true false e f = ap (λ n. min n b == 1) e ∙ ap (λ n. min 1 n == 1) f
and_digit a b false true e f = ap (λ n. min n b == 1) e ∙ ap (λ n. min 0 n == 1) f
and_digit a b false false e f = ap (λ n. min n b == 1) e ∙ ap (λ n. min 0 n == 1) f

high_digit : (from i : ℕ) → from < 64 → i < 64 → bit_at (2 ^ 64 - 2 ^ from) i ≡ cond (nat_le from i) 1 0
high_digit from i few below = elim (nat_le from i) as (λ b. nat_le from i ≡ b → bit_at (2 ^ 64 - 2 ^ from) i ≡ cond b 1 0) [
  | true ↦ λ t. (let le : from ≤ i = grind (arith, nat_tests) in bit_at_mask_inside from 64 i le below)
  | false ↦ λ f. (let lt : i < from = grind (arith, nat_tests) in bit_at_mask_below from 64 i lt)
] refl

low_digit : (to i : ℕ) → bit_at (2 ^ to - 1) i ≡ cond (nat_lt i to) 1 0
low_digit to i = elim (nat_lt i to) as (λ b. nat_lt i to ≡ b → bit_at (2 ^ to - 1) i ≡ cond b 1 0) [
  | true ↦ λ t. (let lt : i < to = grind (arith, nat_tests) in bit_at_ones to i lt)
  | false ↦ λ f. (let le : to ≤ i = grind (arith, nat_tests) in bit_at_ones_above to i le)
] refl

-- the ones from bit `from` to before bit `to`
pub ones_between_is : (from to i : ℕ) → from < 64 → 1 ≤ to → to ≤ 64 → i < 64 → is_set (bit_and ((2 ^ 64 - 1) * 2 ^ from % 2 ^ 64) ((2 ^ 64 - 1) / 2 ^ (64 - to))) i ≡ (nat_le from i && nat_lt i to)
ones_between_is from to i few some most below =
    let high = (2 ^ 64 - 1) * 2 ^ from % 2 ^ 64 in
    let low = (2 ^ 64 - 1) / 2 ^ (64 - to) in
    let up : bit_at high i ≡ cond (nat_le from i) 1 0 = ap (λ n. bit_at n i) (ones_shl 64 from (omega arith)) ∙ high_digit from i few below in
    let same : 64 - (64 - to) ≡ to = omega arith in
    let down : bit_at low i ≡ cond (nat_lt i to) 1 0 = ap (λ n. bit_at n i) (ones_shr 64 (64 - to) (omega arith)) ∙ ap (λ k. bit_at (2 ^ k - 1) i) same ∙ low_digit to i in
    ap (λ n. n == 1) (bit_at_and high low i) ∙ and_digit (bit_at high i) (bit_at low i) (nat_le from i) (nat_lt i to) up down
