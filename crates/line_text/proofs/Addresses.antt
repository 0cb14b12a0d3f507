-- The spelling of an address is read back, and what is read has one spelling.
use Rattle.std.proofs.Common.{◌≡◌, ◌≢◌, ℕ, zero, suc, ◌+◌, ◌*◌, ◌/◌, ◌%◌, ◌^◌, ◌<◌, ◌≤◌, false, List, [], ◌∷◌, ◌++◌, length, get_or, codes, Option, Some, None, refl, sym, ap, ◌∙◌, arith, append_assoc, append-nil, length-append, All, IsSome}
use Rattle.std.specs.Prelude.{option_and_then}
use Rattle.std.specs.Fmt.{digits, digit_glyph}
use Rattle.std.proofs.Math.Nat.{pow-suc, pow-le-pow_right}
use Rattle.std.proofs.lemmas.Bool.Decides.{nat_tests}
use Rattle.std.proofs.lemmas.Fmt.{hex_one_digit}
use Rattle.std.proofs.Math.ListN.{get_or-append}
use Rattle.std.proofs.lemmas.List.Elements.{All-nil, All-cons, All-push}
use Rattle.std.proofs.lemmas.Option.{option_and_then_some}
use Rattle.line_text.specs.Address.{hex_digit, hex_on, hex_number, address, spelled_address}
use Rattle.line_text.specs.Line.{after_prefix}
use Rattle.line_text.proofs.Pieces.{after_prefix-Some}
use Rattle.line_text.proofs.Hex.{hex_by_steps, hex_step, length_hex_le}

hex_digit-glyph : (d : ℕ) → d < 16 → hex_digit (digit_glyph false d) ≡ Some d
hex_digit-glyph d small = grind (arith, nat_tests)

hex_digit-Some : (c d : ℕ) → hex_digit c ≡ Some d → (d < 16) × (digit_glyph false d ≡ c)
hex_digit-Some c d e = (grind (arith, nat_tests), grind (arith, nat_tests))

hex_on-append : (n : ℕ) (xs ys : List ℕ) → hex_on n (xs ++ ys) ≡ option_and_then (λ m. hex_on m ys) (hex_on n xs)
hex_on-append n [] ys = refl
hex_on-append n (x ∷ xs) ys = by (λ v. hex_on-append (16 * n + v) xs ys) (hex_digit x)
  where
    by : ((v : ℕ) → hex_on (16 * n + v) (xs ++ ys) ≡ option_and_then (λ m. hex_on m ys) (hex_on (16 * n + v) xs))
        → (d : Option ℕ) → option_and_then (λ v. hex_on (16 * n + v) (xs ++ ys)) d ≡ option_and_then (λ m. hex_on m ys) (option_and_then (λ v. hex_on (16 * n + v) xs) d)
    by rest None = refl
    by rest (Some v) = rest v

hex_on_one : (n d : ℕ) → d < 16 → hex_on n (digit_glyph false d ∷ []) ≡ Some (16 * n + d)
hex_on_one n d small = rw (hex_digit-glyph d small)

hex_on-digits : (n : ℕ) → n < 2 ^ 64 → hex_on 0 (digits 16 false n) ≡ Some n
hex_on-digits = hex_by_steps (λ m ds. hex_on 0 ds ≡ Some m)
    (λ m small. hex_on_one 0 m small ∙ ap (λ v. Some v) (omega arith))
    (λ m ds large front. let whole : 16 * (m / 16) + m % 16 ≡ m = omega arith in
    hex_on-append 0 ds (digit_glyph false (m % 16) ∷ []) ∙ ap (option_and_then (λ v. hex_on v (digit_glyph false (m % 16) ∷ []))) front
    ∙ hex_on_one (m / 16) (m % 16) (omega arith) ∙ ap (λ v. Some v) whole)

-- digits without a leading zero
pub record IsCanonicalHex (word : List ℕ) : Type 0 where
  pub some : 0 < length word
  pub few : length word ≤ 16
  pub front : get_or word 0 0 ≡ 48 → length word ≡ 1

glyph_positive : (d : ℕ) → 0 < d → d < 16 → 48 < digit_glyph false d
glyph_positive d some small = grind (arith, nat_tests)

first_hex : (n : ℕ) → 0 < n → n < 2 ^ 64 → 48 < get_or (digits 16 false n) 0 0
first_hex n some small = (hex_by_steps (λ m ds. (0 < length ds) × (0 < m → 48 < get_or ds 0 0))
    (λ m l. (omega arith, λ a. glyph_positive m a l))
    (λ m ds l h. (omega (arith, length-append ds (digit_glyph false (m % 16) ∷ [])), λ a. omega (arith, get_or-append ds (digit_glyph false (m % 16) ∷ []) 0 0 h.0, h.1 (omega arith)))) n small).1 some

hex_nonempty : (n : ℕ) → n < 2 ^ 64 → 0 < length (digits 16 false n)
hex_nonempty = hex_by_steps (λ m ds. 0 < length ds) (λ m l. omega arith) (λ m ds l h. omega (arith, length-append ds (digit_glyph false (m % 16) ∷ [])))

digits_are_canonical : (n : ℕ) → n < 2 ^ 64 → IsCanonicalHex (digits 16 false n)
digits_are_canonical zero small = record { some = hex_nonempty 0 small; few = length_hex_le 0 small; front = λ z. ap length (hex_one_digit false 0 (omega arith)) }
digits_are_canonical (suc n) small = record {
  some = hex_nonempty (suc n) small;
  few = length_hex_le (suc n) small;
  front = λ z. absurd (omega (arith, first_hex (suc n) (omega arith) small));
}

hex_number_is : (n : ℕ) (word : List ℕ) → IsCanonicalHex word → hex_on 0 word ≡ Some n → hex_number word ≡ Some n
hex_number_is n [] h e = absurd (omega (arith, h.some))
hex_number_is n (c ∷ []) h e = by (hex_digit c) e
  where
    by : (d : Option ℕ) → option_and_then (λ v. Some (16 * 0 + v)) d ≡ Some n → d ≡ Some n
    by None none = none
    by (Some v) found = ap (λ m. Some m) (omega arith) ∙ found
hex_number_is n (c ∷ d ∷ ds) h e =
    let few = h.few in
    let no_zero : c ≢ 48 = λ z. omega (arith, h.front z) in
    grind (arith, nat_tests)

pub address-spelled_address : (n : ℕ) → n < 2 ^ 64 → address (spelled_address n) ≡ Some n
address-spelled_address n small = hex_number_is n (digits 16 false n) (digits_are_canonical n small) (hex_on-digits n small)

-- the value is at least what it follows
hex_on_grows : (n m : ℕ) (ds : List ℕ) → hex_on n ds ≡ Some m → n ≤ m
hex_on_grows n m [] e = let same : n ≡ m = cc in omega arith
hex_on_grows n m (c ∷ cs) e = option_and_then_some (λ d. hex_on (16 * n + d) cs) (hex_digit c) m e (λ d is rest. omega (arith, hex_on_grows (16 * n + d) m cs rest))

-- and has no more digits
hex_on_small : (i n m : ℕ) (ds : List ℕ) → n < 16 ^ i → hex_on n ds ≡ Some m → m < 16 ^ (i + length ds)
hex_on_small i n m [] low e = let same : n ≡ m = cc in let plain : i + 0 ≡ i = omega arith in rw plain (omega arith)
hex_on_small i n m (c ∷ cs) low e = option_and_then_some (λ d. hex_on (16 * n + d) cs) (hex_digit c) m e (λ d is rest.
    let small = (hex_digit-Some c d is).0 in
    let same : suc i + length cs ≡ i + length (c ∷ cs) = omega arith in
    rw (← same) (hex_on_small (suc i) (16 * n + d) m cs (omega (arith, pow-suc 16 i)) rest))

-- the digits of the whole are those of the front and what follows
digits-hex_on : (n m : ℕ) (ds : List ℕ) → 0 < n → hex_on n ds ≡ Some m → m < 2 ^ 64 → digits 16 false m ≡ digits 16 false n ++ ds
digits-hex_on n m [] some e small = let same : n ≡ m = cc in ap (digits 16 false) (sym same) ∙ sym (append-nil (digits 16 false n))
digits-hex_on n m (c ∷ cs) some e small = option_and_then_some (λ d. hex_on (16 * n + d) cs) (hex_digit c) m e (λ d is rest.
    let told = hex_digit-Some c d is in
    let k : ℕ = 16 * n + d in
    let front : k / 16 ≡ n = omega (arith, told.0) in
    let last : k % 16 ≡ d = omega (arith, told.0) in
    let low = hex_on_grows k m cs rest in
    digits-hex_on k m cs (omega arith) rest small
    ∙ ap (λ xs. xs ++ cs) (hex_step k (omega arith) (omega (arith, low)) ∙ (λ i. digits 16 false (front i) ++ (digit_glyph false (last i) ∷ [])) ∙ ap (λ g. digits 16 false n ++ (g ∷ [])) told.1)
    ∙ append_assoc (digits 16 false n) (c ∷ []) cs)

no_more_than : (i n : ℕ) → i ≤ 16 → n < 16 ^ i → n < 2 ^ 64
no_more_than i n few low = let whole : 16 ^ i ≤ 16 ^ 16 = pow-le-pow_right {n = 16} (omega arith) {i = i} {j = 16} few in omega arith

pub hex_number-Some : (n : ℕ) (word : List ℕ) → hex_number word ≡ Some n → (word ≡ digits 16 false n) × (n < 2 ^ 64)
hex_number-Some n [] e = absurd cc
hex_number-Some n (c ∷ []) e = let told = hex_digit-Some c n e in (ap (λ g. g ∷ []) (sym told.1) ∙ sym (hex_one_digit false n told.0), omega (arith, told.0))
hex_number-Some n (c ∷ d ∷ ds) e =
    let not_zero : c ≢ 48 = grind (arith, nat_tests) in
    let few : length (c ∷ d ∷ ds) ≤ 16 = grind (arith, nat_tests) in
    let value : hex_on 0 (c ∷ d ∷ ds) ≡ Some n = grind (arith, nat_tests) in
    let small : n < 2 ^ 64 = no_more_than (0 + length (c ∷ d ∷ ds)) n (omega (arith, few)) (hex_on_small 0 0 n (c ∷ d ∷ ds) (omega arith) value) in (
      option_and_then_some (λ v. hex_on (16 * 0 + v) (d ∷ ds)) (hex_digit c) n value (λ v is rest.
          let told = hex_digit-Some c v is in
          let some : 0 < v = grind (arith, nat_tests) in
          sym (digits-hex_on (16 * 0 + v) n (d ∷ ds) (omega arith) rest small ∙ ap (λ xs. xs ++ (d ∷ ds)) (ap (digits 16 false) (omega arith) ∙ hex_one_digit false v told.0 ∙ ap (λ g. g ∷ []) told.1))),
      small,
    )

pub address-Some : (n : ℕ) (word : List ℕ) → address word ≡ Some n → (word ≡ spelled_address n) × (n < 2 ^ 64)
address-Some n word e = option_and_then_some hex_number (after_prefix (codes "0x") word) n e (λ ds is found.
    let told = hex_number-Some n ds found in
    (after_prefix-Some (codes "0x") word ds is ∙ ap (λ xs. codes "0x" ++ xs) told.0, told.1))

glyph_is_digit : (d : ℕ) → d < 16 → IsSome (hex_digit (digit_glyph false d))
glyph_is_digit d small = rw (hex_digit-glyph d small)

pub digits-hex : (n : ℕ) → n < 2 ^ 64 → All (λ c. IsSome (hex_digit c)) (digits 16 false n)
digits-hex = hex_by_steps (λ _ ds. All (λ c. IsSome (hex_digit c)) ds)
    (λ m small. All-cons (λ c. IsSome (hex_digit c)) (digit_glyph false m) [] (glyph_is_digit m small) (All-nil (λ c. IsSome (hex_digit c))))
    (λ m ds large front. All-push (λ c. IsSome (hex_digit c)) ds (digit_glyph false (m % 16)) front (glyph_is_digit (m % 16) (omega arith)))
