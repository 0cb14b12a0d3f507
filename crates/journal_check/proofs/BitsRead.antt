-- The results that digits say.
use Rattle.std.proofs.Common.{◌≡◌, ℕ, ◌==◌, Bool, true, false, List, [], ◌∷◌, length, refl, sym, ap, ◌∙◌, arith, Some, None}
use Rattle.std.proofs.lemmas.Bool.Decides.{nat_tests}
use Rattle.std.proofs.lemmas.List.{length-map}
use Rattle.std.specs.Prelude.{◌≢◌, ◌&&◌, Option, map, option_and_then, if◌then◌else◌}
use Rattle.std.specs.List.{list_all}
use Rattle.journal_text.specs.EntryLine.{bits_of, is_bit, is_one, n_bits_of}

-- whether each digit is `1`, where each is `0` or `1`
abbrev said : List ℕ → Bool → Option (List Bool)
said digits all = if all then Some (map is_one digits) else None

digits_say : (digits : List ℕ) → bits_of digits ≡ said digits (list_all is_bit digits)
digits_say [] = refl
digits_say (c ∷ cs) =
    ap (λ o. option_and_then (λ bits. if c == 49 then Some (true ∷ bits) else if c == 48 then Some (false ∷ bits) else None) o) (digits_say cs)
    ∙ by (c == 49) (c == 48) (is_bit c) (list_all is_bit cs) refl refl refl
  where
    by : (one none bit all : Bool) → (c == 49) ≡ one → (c == 48) ≡ none → is_bit c ≡ bit
        → option_and_then (λ bits. if one then Some (true ∷ bits) else if none then Some (false ∷ bits) else None) (said cs all) ≡ (if bit && all then Some (one ∷ map is_one cs) else None)
    by true none true true a b e = refl
    by true none true false a b e = refl
    by true none false all a b e = absurd (grind (arith, nat_tests, a, e))
    by false true true true a b e = refl
    by false true true false a b e = refl
    by false true false all a b e = absurd (grind (arith, nat_tests, b, e))
    by false false true all a b e = absurd (grind (arith, nat_tests, a, b, e))
    by false false false true a b e = refl
    by false false false false a b e = refl

either_way : (many : Bool) (o : Option (List Bool)) → (if many then o else o) ≡ o
either_way true o = refl
either_way false o = refl

n_bits_said : (digits : List ℕ) (count : ℕ) → n_bits_of count digits ≡ (if length digits == count then said digits (list_all is_bit digits) else None)
n_bits_said digits count = ap (λ o. option_and_then (λ bits. if length bits == count then Some bits else None) o) (digits_say digits) ∙ by (list_all is_bit digits)
  where
    by : (all : Bool) → option_and_then (λ bits. if length bits == count then Some bits else None) (said digits all) ≡ (if length digits == count then said digits all else None)
    by true = ap (λ n. if n == count then Some (map is_one digits) else None) (length-map digits is_one)
    by false = sym (either_way (length digits == count) None)

-- digits of another number do not say this many results
pub other_count : (digits : List ℕ) (count : ℕ) → length digits ≢ count → None ≡ n_bits_of count digits
other_count digits count other =
    let differs : (length digits == count) ≡ false = grind (arith, nat_tests, other) in
    sym (n_bits_said digits count ∙ ap (λ t. if t then said digits (list_all is_bit digits) else None) differs)

-- this many digits, each of them `0` or `1`, say their results
pub bits_read : (digits : List ℕ) (count : ℕ) → length digits ≡ count → list_all is_bit digits ≡ true → Some (map is_one digits) ≡ n_bits_of count digits
bits_read digits count many each =
    let right : (length digits == count) ≡ true = grind (arith, nat_tests, many) in
    sym (n_bits_said digits count ∙ λ i. if right i then said digits (each i) else None)

-- any other digits
pub other_digits : (digits : List ℕ) (count : ℕ) → list_all is_bit digits ≡ false → None ≡ n_bits_of count digits
other_digits digits count other =
    sym (n_bits_said digits count ∙ (ap (λ all. if length digits == count then said digits all else None) other ∙ either_way (length digits == count) None))
