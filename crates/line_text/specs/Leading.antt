-- Numbers and addresses that bytes begin with.
use Rattle.std.specs.Prelude.{ℕ, Bool, List, drop, length, codes, is_some, Option, option_and_then}
use Rattle.std.specs.Borrow.{Bor}
use Rattle.std.specs.Char.{is_ascii_digit}
use Rattle.std.specs.List.{take_while}
use Rattle.std.specs.Option.{option_map}
use Rattle.line_text.specs.Address.{hex_digit, hex_number}
use Rattle.line_text.specs.Line.{after_prefix}
use Rattle.line_text.specs.Number.{number}

-- the decimal digits that bytes begin with
abbrev pub leading_digits : List ℕ → List ℕ
leading_digits bytes = take_while is_ascii_digit bytes

-- the number that they spell, if it is at most `most`, and the bytes after them
abbrev pub leading_number : ℕ → List ℕ → Option (ℕ × List ℕ)
leading_number most bytes =
    option_map (λ n. (n, drop (length (leading_digits bytes)) bytes)) (number most (leading_digits bytes))

-- whether a byte is a hexadecimal digit in lower case
abbrev pub is_hex_digit : ℕ → Bool
is_hex_digit c = is_some (hex_digit c)

-- the hexadecimal digits that bytes begin with
abbrev pub leading_hex_digits : List ℕ → List ℕ
leading_hex_digits bytes = take_while is_hex_digit bytes

-- the number that they spell, and the bytes after them
abbrev pub leading_hex : List ℕ → Option (ℕ × List ℕ)
leading_hex bytes =
    option_map (λ n. (n, drop (length (leading_hex_digits bytes)) bytes)) (hex_number (leading_hex_digits bytes))

-- the address that bytes begin with, `0x` and such digits, and the bytes after it
abbrev pub leading_address : List ℕ → Option (ℕ × List ℕ)
leading_address bytes = option_and_then leading_hex (after_prefix (codes "0x") bytes)

-- a number and borrowed bytes, as a number and a list
abbrev pub view_leading : Option (ℕ × Bor (List ℕ)) → Option (ℕ × List ℕ)
view_leading result = option_map (λ (x : ℕ × Bor (List ℕ)). (x.0, x.1.now)) result
