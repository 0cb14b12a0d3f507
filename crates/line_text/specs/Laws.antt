-- How reading and spelling relate.
use Rattle.std.specs.Prelude.{◌≡◌, ℕ, ◌^◌, ◌<◌, ◌≤◌, List, Some}
use Rattle.std.specs.Fmt.{decimal}
use Rattle.line_text.specs.Address.{address, spelled_address}
use Rattle.line_text.specs.Number.{number}

-- the decimal spelling of each number up to a limit is read as that number
abbrev pub ReadsDecimal : Type 0
ReadsDecimal = (most n : ℕ) → n ≤ most → most < 2 ^ 64 → number most (decimal n) ≡ Some n

-- a word that is read as a number is the decimal spelling of it, and the number is within the limit
abbrev pub ReadsOnlyDecimal : Type 0
ReadsOnlyDecimal = (most n : ℕ) (word : List ℕ) → most < 2 ^ 64 → number most word ≡ Some n → (word ≡ decimal n) × (n ≤ most)

-- the spelling of each address is read as that address
abbrev pub ReadsSpelledAddress : Type 0
ReadsSpelledAddress = (n : ℕ) → n < 2 ^ 64 → address (spelled_address n) ≡ Some n

-- a word that is read as an address is the spelling of it
abbrev pub ReadsOnlySpelledAddress : Type 0
ReadsOnlySpelledAddress = (n : ℕ) (word : List ℕ) → address word ≡ Some n → (word ≡ spelled_address n) × (n < 2 ^ 64)
