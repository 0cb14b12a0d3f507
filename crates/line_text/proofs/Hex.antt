-- The hexadecimal digits of a number, one more at the end.
use Rattle.std.proofs.Common.{◌≡◌, ℕ, zero, suc, ◌+◌, ◌*◌, ◌/◌, ◌%◌, ◌^◌, ◌<◌, ◌≤◌, Bool, false, cond, List, [], ◌∷◌, ◌++◌, ◌⊎◌, inl, inr, length, refl, sym, ap, subst, ◌∙◌, arith, eq-eqb, append_assoc, length-append}
use Rattle.std.proofs.Math.Nat.{pow-le-pow_right, pow-suc}
use Rattle.std.specs.Fmt.{digits, digits_onto, digit_glyph}
use Rattle.std.proofs.lemmas.Fmt.{hex_one_digit}
use borrow.Author.Tests.{ne_eqb}

abbrev spell : ℕ → ℕ → List ℕ → List ℕ
spell k n acc = digits_onto k 16 false n acc

abbrev last_glyph : ℕ → ℕ
last_glyph n = digit_glyph false (n % 16)

spell_last : (k n : ℕ) (acc : List ℕ) → n < 16 → spell (suc k) n acc ≡ last_glyph n ∷ acc
spell_last k n acc h = ap (λ (t : Bool). cond t (last_glyph n ∷ acc) (spell k (n / 16) (last_glyph n ∷ acc))) (eq-eqb (n / 16) 0 (omega arith))

spell_next : (k n : ℕ) (acc : List ℕ) → 16 ≤ n → spell (suc k) n acc ≡ spell k (n / 16) (last_glyph n ∷ acc)
spell_next k n acc h = ap (λ (t : Bool). cond t (last_glyph n ∷ acc) (spell k (n / 16) (last_glyph n ∷ acc))) (ne_eqb (n / 16) 0 (λ e. omega arith))

below_or_not : (n k : ℕ) → (n < k) ⊎ (k ≤ n)
below_or_not n zero = inr (omega arith)
below_or_not zero (suc k) = inl (omega arith)
below_or_not (suc n) (suc k) = elim (below_or_not n k) [ inl h ↦ inl (omega arith) | inr h ↦ inr (omega arith) ]

spell-append : (k n : ℕ) (acc : List ℕ) → spell k n acc ≡ spell k n [] ++ acc
spell-append zero n acc = refl
spell-append (suc k) n acc = elim (below_or_not n 16) [
  | inl l ↦ spell_last k n acc l ∙ ap (λ x. x ++ acc) (sym (spell_last k n [] l))
  | inr l ↦ spell_next k n acc l ∙ spell-append k (n / 16) (last_glyph n ∷ acc) ∙ sym (append_assoc (spell k (n / 16) []) (last_glyph n ∷ []) acc) ∙ ap (λ x. x ++ acc) (sym (spell_next k n [] l ∙ spell-append k (n / 16) (last_glyph n ∷ [])))
]

-- more room for digits changes nothing
spell_enough : (j k n : ℕ) (acc : List ℕ) → n < 16 ^ suc j → n < 16 ^ suc k → spell (suc j) n acc ≡ spell (suc k) n acc
spell_enough zero k n acc p q = spell_last zero n acc (omega arith) ∙ sym (spell_last k n acc (omega arith))
spell_enough (suc j) zero n acc p q = spell_last (suc j) n acc (omega arith) ∙ sym (spell_last zero n acc (omega arith))
spell_enough (suc j) (suc k) n acc p q = elim (below_or_not n 16) [
  | inl l ↦ spell_last (suc j) n acc l ∙ sym (spell_last (suc k) n acc l)
  | inr l ↦ spell_next (suc j) n acc l ∙ spell_enough j k (n / 16) (last_glyph n ∷ acc) (omega arith) (omega arith) ∙ sym (spell_next (suc k) n acc l)
]

hex_is_spelled : (n : ℕ) → digits 16 false n ≡ spell 64 n []
unfolding digits
hex_is_spelled n = refl

pub hex_step : (n : ℕ) → 16 ≤ n → n < 2 ^ 64 → digits 16 false n ≡ digits 16 false (n / 16) ++ (digit_glyph false (n % 16) ∷ [])
hex_step n h small =
    hex_is_spelled n ∙ spell_next 63 n [] h ∙ spell_enough 62 63 (n / 16) (last_glyph n ∷ []) (omega arith) (omega arith) ∙ spell-append 64 (n / 16) (last_glyph n ∷ [])
    ∙ ap (λ ds. ds ++ (last_glyph n ∷ [])) (sym (hex_is_spelled (n / 16)))

-- induction on the digits: one digit, then one more at the end
module _ (P : ℕ → List ℕ → Type 0) (one : (n : ℕ) → n < 16 → P n (digit_glyph false n ∷ [])) (more : (n : ℕ) (ds : List ℕ) → 16 ≤ n → P (n / 16) ds → P n (ds ++ (digit_glyph false (n % 16) ∷ []))) where
  by : (k n : ℕ) → n ≤ k → n < 2 ^ 64 → P n (digits 16 false n)
  by zero n le small = subst (P n) (sym (hex_one_digit false n (omega arith))) (one n (omega arith))
  by (suc k) n le small = elim (below_or_not n 16) [
    | inl l ↦ subst (P n) (sym (hex_one_digit false n l)) (one n l)
    | inr l ↦ subst (P n) (sym (hex_step n l small)) (more n (digits 16 false (n / 16)) l (by k (n / 16) (omega arith) (omega arith)))
  ]

  pub hex_by_steps : (n : ℕ) → n < 2 ^ 64 → P n (digits 16 false n)
  hex_by_steps n small = by n n (omega arith) small

length_more : (m : ℕ) (ds : List ℕ) → 16 ≤ m → ((j : ℕ) → 0 < j → m / 16 < 16 ^ j → length ds ≤ j) → (j : ℕ) → 0 < j → m < 16 ^ j → length (ds ++ (digit_glyph false (m % 16) ∷ [])) ≤ j
length_more m ds l h zero a b = absurd (omega arith)
length_more m ds l h (suc zero) a b = absurd (omega arith)
length_more m ds l h (suc (suc j)) a b = omega (arith, length-append ds (digit_glyph false (m % 16) ∷ []), h (suc j) (omega arith) (omega arith))

pub length_hex_le : (n : ℕ) → n < 2 ^ 64 → length (digits 16 false n) ≤ 16
length_hex_le n small = hex_by_steps (λ m ds. (j : ℕ) → 0 < j → m < 16 ^ j → length ds ≤ j) (λ m l j a b. omega arith) length_more n small 16 (omega arith) (omega arith)

-- one more digit after fewer than 16 fits 64 bits
pub hex_room : (i v : ℕ) → i < 16 → v < 16 ^ i → 16 * v + 15 < 2 ^ 64
hex_room i v low small =
    let whole : 16 ^ suc i ≤ 16 ^ 16 = pow-le-pow_right {n = 16} (omega arith) {i = suc i} {j = 16} (omega arith) in
    omega (arith, pow-suc 16 i)
