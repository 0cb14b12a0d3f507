-- The elements that a list begins with, from an index on.
use Rattle.std.proofs.Common.{◌≡◌, ℕ, ◌+◌, ◌<◌, ◌≤◌, Bool, true, false, cond, List, [], ◌∷◌, ◌++◌, length, drop, take, get_or, suc, ◌*◌, ◌-◌, Option, Some, None, ◌^◌, refl, ap, sym, ◌∙◌, arith, add-one}
use Rattle.std.proofs.Math.Seq.{drop-cons}
use Rattle.std.proofs.lemmas.List.{take-append-drop}
use Rattle.std.specs.Option.{option_map, option_map_or}
use Rattle.std.specs.Prelude.{codes, decimal, option_and_then}
use Rattle.line_text.specs.Address.{address, hex_number, spelled_address}
use Rattle.line_text.specs.Leading.{is_hex_digit, leading_address, leading_digits, leading_hex, leading_hex_digits, leading_number}
use Rattle.line_text.specs.Line.{after_prefix}
use Rattle.line_text.specs.Number.{number}
use Rattle.line_text.proofs.Addresses.{address-Some}
use Rattle.line_text.proofs.Numbers.{number-Some}
use Rattle.line_text.proofs.Pieces.{after_prefix-Some}
use Rattle.std.proofs.lemmas.List.{drop_all}
use Rattle.std.proofs.lemmas.List.Sums.{take_while-cons}
use Rattle.std.proofs.lemmas.Bool.Decides.{nat_tests}
use Rattle.std.specs.Char.{is_ascii_digit}
use Rattle.std.specs.List.{take_while}
use Rattle.std.specs.Str.{all_ascii_digits}
use Rattle.line_text.specs.Number.{digits_up_to, value_on, with_digit_up_to}
use Rattle.line_text.proofs.Values.{value_grows}

-- the next one passes
pub take_while-pass : (p : ℕ → Bool) (i : ℕ) (xs : List ℕ) → i < length xs → p (get_or xs i 0) ≡ true
    → take_while p (drop i xs) ≡ get_or xs i 0 ∷ take_while p (drop (i + 1) xs)
take_while-pass p i xs here pass =
    ap (take_while p) (drop-cons xs i 0 here)
    ∙ take_while-cons p (get_or xs i 0) (drop (suc i) xs)
    ∙ ap (λ b. cond b (get_or xs i 0 ∷ take_while p (drop (suc i) xs)) []) pass
    ∙ ap (λ n. get_or xs i 0 ∷ take_while p (drop n xs)) (sym (add-one i))

-- they are the first of the list, as many as they are
pub take_while-take : (p : ℕ → Bool) (xs : List ℕ) → take (length (take_while p xs)) xs ≡ take_while p xs
take_while-take p [] = refl
take_while-take p (x ∷ xs) =
    let e = take_while-cons p x xs in
    rw e (by (take_while-take p xs) (p x))
  where
    by : take (length (take_while p xs)) xs ≡ take_while p xs
        → (b : Bool) → take (length (cond b (x ∷ take_while p xs) [])) (x ∷ xs) ≡ cond b (x ∷ take_while p xs) []
    by rest true = ap (λ ys. x ∷ ys) rest
    by rest false = refl

-- one more digit
pub one_more : (most v c w : ℕ) → with_digit_up_to most v c ≡ Some w → (w ≡ 10 * v + (c - 48)) × (w ≤ most)
one_more most v c w e = (grind (arith, nat_tests), grind (arith, nat_tests))

-- a digit that makes the number too great
too_great : (most v c : ℕ) → is_ascii_digit c ≡ true → with_digit_up_to most v c ≡ None → most < 10 * v + (c - 48)
too_great most v c digit e = grind (arith, nat_tests)

-- with it, the digits spell no number within the limit
pub no_more_number : (most v c : ℕ) (cs word : List ℕ) → is_ascii_digit c ≡ true → value_on 0 word ≡ value_on v (c ∷ cs) → with_digit_up_to most v c ≡ None
    → None ≡ digits_up_to most word
no_more_number most v c cs word digit value e =
    let over = too_great most v c digit e in
    let grown = value_grows (10 * v + (c - 48)) cs in
    let great : most < value_on 0 word = omega arith in
    grind (arith, nat_tests)

-- a digit, and then digits
pub all_more : (c : ℕ) (cs : List ℕ) → is_ascii_digit c ≡ true → all_ascii_digits (c ∷ cs) ≡ all_ascii_digits cs
all_more c cs digit = grind (arith, nat_tests)

-- a part of a list of options of pairs
split_pair : (o : Option ℕ) (ys : List ℕ) (n : ℕ) (rest : List ℕ) → option_map {U = ℕ × List ℕ} (λ m. (m, ys)) o ≡ Some (n, rest) → (o ≡ Some n) × (ys ≡ rest)
split_pair None ys n rest e = absurd cc
split_pair (Some m) ys n rest e =
    (ap (λ (o : Option (ℕ × List ℕ)). option_map (λ p. p.0) o) e, ap (λ (o : Option (ℕ × List ℕ)). option_map_or (λ p. p.1) o ys) e)

-- the elements that a list begins with, and those after them, are the list
take_while-whole : (p : ℕ → Bool) (xs : List ℕ) → xs ≡ take_while p xs ++ drop (length (take_while p xs)) xs
take_while-whole p xs = sym (take-append-drop (length (take_while p xs)) xs) ∙ ap (λ ys. ys ++ drop (length (take_while p xs)) xs) (take_while-take p xs)

pub leading_number-Some : (most n : ℕ) (bytes rest : List ℕ) → most < 2 ^ 64 → leading_number most bytes ≡ Some (n, rest) → (bytes ≡ decimal n ++ rest) × (n ≤ most)
leading_number-Some most n bytes rest small e =
    let parts = split_pair (number most (leading_digits bytes)) (drop (length (leading_digits bytes)) bytes) n rest e in
    let spelled = number-Some most n (leading_digits bytes) small parts.0 in
    (take_while-whole is_ascii_digit bytes ∙ ap (λ word. word ++ drop (length (leading_digits bytes)) bytes) spelled.0 ∙ ap (λ ys. decimal n ++ ys) parts.1, spelled.1)

leading_hex-Some : (n : ℕ) (bytes rest : List ℕ) → leading_hex bytes ≡ Some (n, rest) → (word : List ℕ) × (hex_number word ≡ Some n) × (bytes ≡ word ++ rest)
leading_hex-Some n bytes rest e =
    let parts = split_pair (hex_number (leading_hex_digits bytes)) (drop (length (leading_hex_digits bytes)) bytes) n rest e in
    (leading_hex_digits bytes, parts.0, take_while-whole is_hex_digit bytes ∙ ap (λ ys. leading_hex_digits bytes ++ ys) parts.1)

after_zero_x : (n : ℕ) (o : Option (List ℕ)) (rest : List ℕ) → option_and_then leading_hex o ≡ Some (n, rest)
    → (word : List ℕ) × (hex_number word ≡ Some n) × (o ≡ Some (word ++ rest))
after_zero_x n None rest e = absurd cc
after_zero_x n (Some bytes) rest e = let said = leading_hex-Some n bytes rest e in (said.0, said.1, ap (λ ys. Some ys) said.2)

pub leading_address-Some : (n : ℕ) (bytes rest : List ℕ) → leading_address bytes ≡ Some (n, rest) → (bytes ≡ spelled_address n ++ rest) × (n < 2 ^ 64)
leading_address-Some n bytes rest e =
    let said = after_zero_x n (after_prefix (codes "0x") bytes) rest e in
    let whole = after_prefix-Some (codes "0x") bytes (said.0 ++ rest) said.2 in
    let reads : address (codes "0x" ++ said.0) ≡ Some n = said.1 in
    let spelled = address-Some n (codes "0x" ++ said.0) reads in
    (whole ∙ ap (λ word. word ++ rest) spelled.0, spelled.1)
