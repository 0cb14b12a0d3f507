-- Bytes split at a byte, and prefixes.
use Rattle.std.specs.Prelude.{ℕ, ◌+◌, ◌==◌, List, take, drop, length, position, nat_eq, Option, Some, None, if◌then◌else◌}
use Rattle.std.specs.Option.{option_map}
use Rattle.std.specs.List.{starts_with}
use Rattle.std.specs.Borrow.{Bor}
use Rattle.line_text.specs.declared.bytes.TheConstants.{SPACE}

-- the bytes before the first of this byte, and those after it
abbrev pub split_at_byte : ℕ → List ℕ → Option (List ℕ × List ℕ)
split_at_byte byte bytes = option_map (λ n. (take n bytes, drop (n + 1) bytes)) (position (λ c. c == byte) bytes)

-- the first word of a line that has a space, and the line after that space
abbrev pub first_word : List ℕ → Option (List ℕ × List ℕ)
first_word line = split_at_byte SPACE line

-- the bytes without the prefix `front`, where they begin with it
abbrev pub after_prefix : List ℕ → List ℕ → Option (List ℕ)
after_prefix front bytes = if starts_with nat_eq bytes front then Some (drop (length front) bytes) else None

-- two borrowed slices as lists
abbrev pub view_pair : Option (Bor (List ℕ) × Bor (List ℕ)) → Option (List ℕ × List ℕ)
view_pair result = option_map (λ (x : Bor (List ℕ) × Bor (List ℕ)). (x.0.now, x.1.now)) result
