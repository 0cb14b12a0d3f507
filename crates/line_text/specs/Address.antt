-- Hexadecimal addresses, each with one spelling.
use Rattle.std.specs.Prelude.{ℕ, ◌+◌, ◌-◌, ◌*◌, ◌==◌, false, ◌&&◌, nat_le, List, [], ◌∷◌, ◌++◌, length, codes, Option, Some, None, option_and_then, if◌then◌else◌}
use Rattle.std.specs.Char.{is_ascii_digit}
use Rattle.std.specs.Fmt.{digits}
use Rattle.line_text.specs.Line.{after_prefix}

-- the value of a hexadecimal digit in lower case
abbrev pub hex_digit : ℕ → Option ℕ
hex_digit c =
    if is_ascii_digit c then Some (c - 48) else if nat_le 97 c && nat_le c 102 then Some (c - 87) else None

-- the number of the hexadecimal digits of n and these
abbrev pub hex_on : ℕ → List ℕ → Option ℕ
hex_on n [] = Some n
hex_on n (c ∷ cs) = option_and_then (λ d. hex_on (16 * n + d) cs) (hex_digit c)

-- the number that hexadecimal digits spell: `0`, or 1 to 16 digits the first of which is not 0
abbrev pub hex_number : List ℕ → Option ℕ
hex_number [] = None
hex_number (c ∷ []) = hex_digit c
hex_number (c ∷ d ∷ ds) =
    if c == 48 then None else if nat_le (length (c ∷ d ∷ ds)) 16 then hex_on 0 (c ∷ d ∷ ds) else None

-- the address that a word spells: `0x` and such digits
abbrev pub address : List ℕ → Option ℕ
address word = option_and_then hex_number (after_prefix (codes "0x") word)

-- the one spelling of an address
abbrev pub spelled_address : ℕ → List ℕ
spelled_address n = codes "0x" ++ digits 16 false n
