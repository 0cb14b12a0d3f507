-- Decimal numbers, each with one spelling.
use Rattle.std.specs.Prelude.{ℕ, ◌+◌, ◌-◌, ◌*◌, ◌==◌, ◌&&◌, nat_le, List, [], ◌∷◌, Option, Some, None, if◌then◌else◌}
use Rattle.std.specs.Char.{is_ascii_digit}
use Rattle.std.specs.Str.{all_ascii_digits}

-- the number of the digits of n and these
abbrev pub value_on : ℕ → List ℕ → ℕ
value_on n [] = n
value_on n (c ∷ cs) = value_on (10 * n + (c - 48)) cs

-- the number of a word of digits, if it is at most `most`
abbrev pub digits_up_to : ℕ → List ℕ → Option ℕ
digits_up_to most word =
    if all_ascii_digits word && nat_le (value_on 0 word) most then Some (value_on 0 word) else None

-- a number with one more digit, if that is at most `most`
abbrev pub with_digit_up_to : ℕ → ℕ → ℕ → Option ℕ
with_digit_up_to most n c =
    if is_ascii_digit c && nat_le (10 * n + (c - 48)) most then Some (10 * n + (c - 48)) else None

-- the number that a word spells, if it is at most `most`: `0`, or digits the first of which is not 0
abbrev pub number : ℕ → List ℕ → Option ℕ
number most [] = None
number most (c ∷ []) = digits_up_to most (c ∷ [])
number most (c ∷ d ∷ ds) = if c == 48 then None else digits_up_to most (c ∷ d ∷ ds)
