-- A decimal spelling is read back, and what is read has one spelling.
use Rattle.std.proofs.Common.{◌≡◌, ◌≢◌, ℕ, zero, suc, ◌^◌, ◌<◌, ◌≤◌, true, List, [], ◌∷◌, length, get_or, Some, decimal, sym, ap, ◌∙◌, arith, rules, All, IsTrue}
use Rattle.std.specs.Char.{is_ascii_digit}
use Rattle.std.specs.Str.{all_ascii_digits}
use Rattle.std.proofs.lemmas.List.Elements.{All-nil, All-cons}
use Rattle.std.proofs.lemmas.Bool.Decides.{nat_tests}
use Rattle.std.proofs.lemmas.Fmt.{digits_decimal, digits_value-decimal, decimal_nonempty, decimal_digit, first_decimal, decimal-digits_value}
use Rattle.std.proofs.lemmas.Str.Parse.{IsNumeralModel, numerals_by_fold}
use Rattle.line_text.specs.Number.{value_on, number}

own : IsNumeralModel (λ ds. all_ascii_digits ds ≡ true) (value_on 0)
own = numerals_by_fold _ (search rules) value_on (search rules)

-- digits without a leading zero
pub record IsCanonical (word : List ℕ) : Type 0 where
  pub digits : all_ascii_digits word ≡ true
  pub some : 0 < length word
  pub front : get_or word 0 0 ≡ 48 → length word ≡ 1

number_is : (most : ℕ) (word : List ℕ) → IsCanonical word → value_on 0 word ≤ most → number most word ≡ Some (value_on 0 word)
number_is most [] h small = absurd (omega (arith, h.some))
number_is most (c ∷ []) h small = let digits = h.digits in grind (arith, nat_tests)
number_is most (c ∷ d ∷ ds) h small =
    let digits = h.digits in
    let no_zero : c ≢ 48 = λ e. omega (arith, h.front e) in
    grind (arith, nat_tests)

number_tells : (most n : ℕ) (word : List ℕ) → number most word ≡ Some n → IsCanonical word × (value_on 0 word ≡ n) × (n ≤ most)
number_tells most n [] e = absurd cc
number_tells most n (c ∷ []) e = (record { digits = grind (arith, nat_tests); some = omega arith; front = λ z. omega arith }, grind (arith, nat_tests), grind (arith, nat_tests))
number_tells most n (c ∷ d ∷ ds) e = (record { digits = grind (arith, nat_tests); some = omega arith; front = λ z. grind (arith, nat_tests) }, grind (arith, nat_tests), grind (arith, nat_tests))

decimal_is_canonical : (n : ℕ) → n < 2 ^ 64 → IsCanonical (decimal n)
decimal_is_canonical zero small = record { digits = digits_decimal own 0 small; some = decimal_nonempty 0 small; front = λ z. ap length (decimal_digit 0 (omega arith)) }
decimal_is_canonical (suc n) small = record {
  digits = digits_decimal own (suc n) small;
  some = decimal_nonempty (suc n) small;
  front = λ z. absurd (omega (arith, first_decimal (suc n) (omega arith) small));
}

pub number-decimal : (most n : ℕ) → n ≤ most → most < 2 ^ 64 → number most (decimal n) ≡ Some n
number-decimal most n low small =
    let value = digits_value-decimal own n (omega arith) in
    number_is most (decimal n) (decimal_is_canonical n (omega arith)) (omega (arith, value)) ∙ ap (λ m. Some m) value

pub number-Some : (most n : ℕ) (word : List ℕ) → most < 2 ^ 64 → number most word ≡ Some n → (word ≡ decimal n) × (n ≤ most)
number-Some most n word small e =
    let told = number_tells most n word e in
    let canonical = told.0 in
    (sym (decimal-digits_value own word canonical.digits canonical.some canonical.front (omega (arith, told.1, told.2))) ∙ ap decimal told.1, told.2)

digits_each : (word : List ℕ) → all_ascii_digits word ≡ true → All (λ c. IsTrue (is_ascii_digit c)) word
digits_each [] e = All-nil (λ c. IsTrue (is_ascii_digit c))
digits_each (c ∷ cs) e = All-cons (λ d. IsTrue (is_ascii_digit d)) c cs (grind (arith, nat_tests)) (digits_each cs (grind (arith, nat_tests)))

pub digits-decimal : (n : ℕ) → n < 2 ^ 64 → All (λ c. IsTrue (is_ascii_digit c)) (decimal n)
digits-decimal n small = digits_each (decimal n) (digits_decimal own n small)
