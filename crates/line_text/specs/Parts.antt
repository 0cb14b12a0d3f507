-- The parts of bytes between separators, and plain lines.
use Rattle.std.specs.Prelude.{◌≢◌, ℕ, ◌==◌, Bool, true, false, ◌&&◌, nat_le, List, [], ◌∷◌, All, Option, Some, None}
use Rattle.std.specs.Option.{option_map}
use Rattle.std.specs.List.{slice_split, join_with_byte, list_all}
use Rattle.std.specs.Borrow.{Bor}
use Rattle.line_text.specs.declared.bytes.TheConstants.{SPACE}

-- the parts of some bytes between separators; without a separator the bytes are the one part
abbrev pub parts : ℕ → List ℕ → List (List ℕ)
parts separator bytes = slice_split (λ c. c == separator) bytes

-- pieces joined, with the separator between each two
abbrev pub joined : ℕ → List (List ℕ) → List ℕ
joined separator pieces = join_with_byte separator pieces

-- a piece: no byte of it is the separator
abbrev pub IsPiece : ℕ → List ℕ → Type 0
IsPiece separator piece = All (λ c. c ≢ separator) piece

-- the parts of the bytes that are left, if any
abbrev pub parts_left : ℕ → Option (List ℕ) → List (List ℕ)
parts_left separator None = []
parts_left separator (Some bytes) = parts separator bytes

-- the one piece, where there is exactly one
abbrev pub one_of : List (List ℕ) → Option (List ℕ)
one_of (a ∷ []) = Some a
one_of _ = None

-- the two pieces, where there are exactly two
abbrev pub two_of : List (List ℕ) → Option (List ℕ × List ℕ)
two_of (a ∷ b ∷ []) = Some (a, b)
two_of _ = None

-- the three pieces, where there are exactly three
abbrev pub three_of : List (List ℕ) → Option (List ℕ × List ℕ × List ℕ)
three_of (a ∷ b ∷ c ∷ []) = Some (a, b, c)
three_of _ = None

-- the four pieces, where there are exactly four
abbrev pub four_of : List (List ℕ) → Option (List ℕ × List ℕ × List ℕ × List ℕ)
four_of (a ∷ b ∷ c ∷ d ∷ []) = Some (a, b, c, d)
four_of _ = None

-- three borrowed slices as lists
abbrev pub view_three : Option (Bor (List ℕ) × Bor (List ℕ) × Bor (List ℕ)) → Option (List ℕ × List ℕ × List ℕ)
view_three result =
    option_map (λ (x : Bor (List ℕ) × Bor (List ℕ) × Bor (List ℕ)). (x.0.now, x.1.now, x.2.now)) result

-- four borrowed slices as lists
abbrev pub view_four : Option (Bor (List ℕ) × Bor (List ℕ) × Bor (List ℕ) × Bor (List ℕ)) → Option (List ℕ × List ℕ × List ℕ × List ℕ)
view_four result =
    option_map (λ (x : Bor (List ℕ) × Bor (List ℕ) × Bor (List ℕ) × Bor (List ℕ)). (x.0.now, x.1.now, x.2.now, x.3.now)) result

-- a printable byte, from the space to the tilde
abbrev pub is_printable : ℕ → Bool
is_printable c = nat_le 0x20 c && nat_le c 0x7e

-- a word of at least one byte
abbrev pub is_word : List ℕ → Bool
is_word [] = false
is_word (c ∷ cs) = true

-- a well-formed line: each byte is printable, and no word between spaces is empty
abbrev pub is_plain : List ℕ → Bool
is_plain line = list_all is_printable line && list_all is_word (parts SPACE line)
