-- The bits of a word.
use Rattle.std.proofs.Common.{◌≡◌, ℕ, zero, suc, ◌+◌, ◌-◌, ◌%◌, ◌^◌, min, ◌≤◌, ◌<◌, Bool, true, false, cond, ◌&&◌, map, length, refl, sym, ap, subst, ◌∙◌, arith}
use Rattle.std.specs.Prelude.{◌==◌, bit_and, bit_xor, count_ones, if◌then◌else◌}
use Rattle.std.specs.Int.{bit_at}
use Rattle.std.specs.List.{range_with_len}
use Rattle.std.proofs.lemmas.List.FromFn.{get_or-map-range_with_len, length-map-range_with_len}
use Rattle.std.proofs.lemmas.Nat.Bits.{bit_at-lt, bit_at-zero, bit_at_and, bit_at_ones, bit_at_xor, same_from_bits_below}
use Rattle.std.proofs.lemmas.Simd.{bit_mask_l, mask_l-lt, ones-mask_l}
use Rattle.page_bits.specs.Runs.{count_pages, differs}
use Rattle.page_bits.specs.Bits.{is_set}
use Rattle.page_bits.proofs.Counting.{count_same}
use lib.Lanes.{mask_l}

-- one bit of a word, of the mask, and of the change
changed_digit : (w m : ℕ) (out : Bool) → w < 2 → m < 2 → (min ((w + cond out 1 0) % 2) m == 1) ≡ ((m == 1) && differs out (w == 1))
changed_digit zero zero true a b = refl
changed_digit zero zero false a b = refl
changed_digit zero (suc zero) true a b = refl
changed_digit zero (suc zero) false a b = refl
changed_digit (suc zero) zero true a b = refl
changed_digit (suc zero) zero false a b = refl
changed_digit (suc zero) (suc zero) true a b = refl
changed_digit (suc zero) (suc zero) false a b = refl
changed_digit w (suc (suc m)) out a b = absurd (omega arith)
changed_digit (suc (suc w)) m out a b = absurd (omega arith)

new_digit : (w m : ℕ) (out : Bool) → w < 2 → m < 2 → ((w + min ((w + cond out 1 0) % 2) m) % 2 == 1) ≡ (if m == 1 then out else w == 1)
new_digit zero zero true a b = refl
new_digit zero zero false a b = refl
new_digit zero (suc zero) true a b = refl
new_digit zero (suc zero) false a b = refl
new_digit (suc zero) zero true a b = refl
new_digit (suc zero) zero false a b = refl
new_digit (suc zero) (suc zero) true a b = refl
new_digit (suc zero) (suc zero) false a b = refl
new_digit w (suc (suc m)) out a b = absurd (omega arith)
new_digit (suc (suc w)) m out a b = absurd (omega arith)

-- all bits are alike
wanted_bit : (wanted i : ℕ) (out : Bool) → i < 64 → wanted ≡ (if out then 2 ^ 64 - 1 else 0) → bit_at wanted i ≡ cond out 1 0
wanted_bit wanted i true below is = ap (λ n. bit_at n i) is ∙ bit_at_ones 64 i below
wanted_bit wanted i false below is = ap (λ n. bit_at n i) is ∙ bit_at-zero i

changed_at : (word wanted mask i : ℕ) (out : Bool) → i < 64 → wanted ≡ (if out then 2 ^ 64 - 1 else 0) → bit_at (bit_and (bit_xor word wanted) mask) i ≡ min ((bit_at word i + cond out 1 0) % 2) (bit_at mask i)
changed_at word wanted mask i out below is =
    bit_at_and (bit_xor word wanted) mask i
    ∙ ap (λ b. min b (bit_at mask i)) (bit_at_xor word wanted i ∙ ap (λ b. (bit_at word i + b) % 2) (wanted_bit wanted i out below is))

-- the bits that change are those of the mask that are not yet so
pub changed_bit : (word wanted mask i : ℕ) (out : Bool) → i < 64 → wanted ≡ (if out then 2 ^ 64 - 1 else 0) → is_set (bit_and (bit_xor word wanted) mask) i ≡ (is_set mask i && differs out (is_set word i))
changed_bit word wanted mask i out below is =
    ap (λ n. n == 1) (changed_at word wanted mask i out below is)
    ∙ changed_digit (bit_at word i) (bit_at mask i) out (bit_at-lt word i) (bit_at-lt mask i)

-- the word after it
pub new_bit : (word wanted mask i : ℕ) (out : Bool) → i < 64 → wanted ≡ (if out then 2 ^ 64 - 1 else 0) → is_set (bit_xor word (bit_and (bit_xor word wanted) mask)) i ≡ (if is_set mask i then out else is_set word i)
new_bit word wanted mask i out below is =
    ap (λ n. n == 1) (bit_at_xor word (bit_and (bit_xor word wanted) mask) i ∙ ap (λ b. (bit_at word i + b) % 2) (changed_at word wanted mask i out below is))
    ∙ new_digit (bit_at word i) (bit_at mask i) out (bit_at-lt word i) (bit_at-lt mask i)

digit_again : (b : ℕ) → b < 2 → cond (b == 1) 1 0 ≡ b
digit_again zero below = refl
digit_again (suc zero) below = refl
digit_again (suc (suc b)) below = absurd (omega arith)

-- how many bits of a number are 1
pub ones_by_bits : (n k : ℕ) → n < 2 ^ k → count_ones n ≡ count_pages k (is_set n)
ones_by_bits n k below =
    let ms = map (is_set n) (range_with_len 0 k) in
    let len : length ms ≡ k = length-map-range_with_len (is_set n) 0 k in
    let under : mask_l ms < 2 ^ k = subst (λ j. mask_l ms < 2 ^ j) len (mask_l-lt ms) in
    let bit : (i : ℕ) → i < k → bit_at n i ≡ bit_at (mask_l ms) i = λ i here.
    sym (bit_mask_l ms i
    ∙ ap (λ b. cond b 1 0) (get_or-map-range_with_len (is_set n) 0 k i i false here (omega arith))
    ∙ digit_again (bit_at n i) (bit_at-lt n i)) in
    ap count_ones (same_from_bits_below k n (mask_l ms) below under bit) ∙ ones-mask_l (is_set n) (range_with_len 0 k)

pub ones_of_changed : (k word wanted mask : ℕ) (out : Bool) → k ≡ 64 → mask < 2 ^ 64 → bit_and (bit_xor word wanted) mask ≤ mask → wanted ≡ (if out then 2 ^ 64 - 1 else 0) → count_ones (bit_and (bit_xor word wanted) mask) ≡ count_pages k (λ i. is_set mask i && differs out (is_set word i))
ones_of_changed k word wanted mask out all fits least is =
    let changed = bit_and (bit_xor word wanted) mask in
    let under : changed < 2 ^ k = subst (λ j. changed < 2 ^ j) (sym all) (omega arith) in
    ones_by_bits changed k under
    ∙ count_same k (is_set changed) (λ i. is_set mask i && differs out (is_set word i)) (λ i below. changed_bit word wanted mask i out (omega arith) is)
