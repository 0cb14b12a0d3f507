-- The bytes that separate the parts of a word.
use Rattle.std.specs.Prelude.{ℕ}

-- between the numbers of a value
abbrev pub comma : ℕ
comma = 44

-- between the two addresses of a filter
abbrev pub dash : ℕ
dash = 45

-- between the parts of a filter
abbrev pub colon : ℕ
colon = 58

-- between a key and its value
abbrev pub equals_sign : ℕ
equals_sign = 61
