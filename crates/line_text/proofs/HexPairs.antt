-- The hexadecimal digits of a number, two and four at a time.
use Rattle.std.proofs.Common.{◌≡◌, ℕ, zero, suc, ◌+◌, ◌-◌, ◌*◌, ◌/◌, ◌%◌, ◌^◌, ◌<◌, ◌≤◌, Bool, true, false, ◌&&◌, T, eqb, List, [], ◌∷◌, ◌++◌, length, get_or, ap, ◌∙◌, inl, inr, arith, eq-zero-or-pos, eqb→eq, append_assoc, length-append}
use Rattle.std.specs.Fmt.{digits, digit_glyph}
use Rattle.std.proofs.lemmas.Fmt.{hex_one_digit}
use lib.Ieee.Fits.{and_l, and_r}
use Rattle.line_text.proofs.Hex.{hex_step}
use Rattle.line_text.specs.declared.hex_digits.TheConstants.{PAIRS}

-- the two digits of a number below 256
abbrev pub pair : ℕ → List ℕ
pair p = digit_glyph false (p / 16) ∷ digit_glyph false (p % 16) ∷ []

abbrev are_pairs : ℕ → Bool
are_pairs zero = true
are_pairs (suc p) = (eqb (get_or PAIRS (p * 2) 0) (digit_glyph false (p / 16)) && eqb (get_or PAIRS (p * 2 + 1) 0) (digit_glyph false (p % 16))) && are_pairs p

below : (n p : ℕ) → T (are_pairs n) → p < n → (get_or PAIRS (p * 2) 0 ≡ digit_glyph false (p / 16)) × (get_or PAIRS (p * 2 + 1) 0 ≡ digit_glyph false (p % 16))
below zero p t h = absurd (omega arith)
below (suc n) p t h =
    elim (eq-zero-or-pos (n - p)) [
      | inl z ↦ let e : p ≡ n = omega arith in let a = and_l _ (are_pairs n) t in rw e (eqb→eq _ _ (and_l _ _ a), eqb→eq _ _ (and_r _ _ a))
      | inr g ↦ below n p (and_r _ (are_pairs n) t) (omega arith)
    ]

pub PAIRS_at : (p : ℕ) → p < 256 → (get_or PAIRS (p * 2) 0 ≡ digit_glyph false (p / 16)) × (get_or PAIRS (p * 2 + 1) 0 ≡ digit_glyph false (p % 16))
PAIRS_at p h = below 256 p tt h

pub length_hex_one : (n : ℕ) → n < 16 → length (digits 16 false n) ≡ 1
length_hex_one n h = ap length (hex_one_digit false n h)

pub hex_two : (n : ℕ) → 16 ≤ n → n < 256 → digits 16 false n ≡ pair n
hex_two n lo hi = rw (hex_step n lo (omega arith), hex_one_digit false (n / 16) (omega arith))

pub length_hex_two : (n : ℕ) → 16 ≤ n → n < 256 → length (digits 16 false n) ≡ 2
length_hex_two n lo hi = ap length (hex_two n lo hi)

pub hex_pair : (n : ℕ) → 256 ≤ n → n < 2 ^ 64 → digits 16 false n ≡ digits 16 false (n / 256) ++ pair (n % 256)
hex_pair n lo hi =
    let a : n / 16 / 16 ≡ n / 256 = omega arith in
    let b : n / 16 % 16 ≡ n % 256 / 16 = omega arith in
    let c : n % 16 ≡ n % 256 % 16 = omega arith in
    rw (hex_step n (omega arith) hi, hex_step (n / 16) (omega arith) (omega arith), append_assoc, a, b, ← c)

pub length_hex_pair : (n : ℕ) → 256 ≤ n → n < 2 ^ 64 → length (digits 16 false n) ≡ length (digits 16 false (n / 256)) + 2
length_hex_pair n lo hi = ap length (hex_pair n lo hi) ∙ length-append _ _

pub hex_four : (n : ℕ) → 65536 ≤ n → n < 2 ^ 64 → digits 16 false n ≡ digits 16 false (n / 65536) ++ (pair (n % 65536 / 256) ++ pair (n % 65536 % 256))
hex_four n lo hi =
    let a : n / 256 / 256 ≡ n / 65536 = omega arith in
    let b : n / 256 % 256 ≡ n % 65536 / 256 = omega arith in
    let c : n % 65536 % 256 ≡ n % 256 = omega arith in
    rw (hex_pair n (omega arith) hi, hex_pair (n / 256) (omega arith) (omega arith), append_assoc, a, b, c)

pub length_hex_four : (n : ℕ) → 65536 ≤ n → n < 2 ^ 64 → length (digits 16 false n) ≡ length (digits 16 false (n / 65536)) + 4
length_hex_four n lo hi = ap length (hex_four n lo hi) ∙ length-append _ _
