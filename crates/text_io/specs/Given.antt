-- How much a source gave.
use Rattle.std.specs.Prelude.{ℕ, ◌≤◌, ◌<◌, List, length, Option}
use Rattle.std.specs.Io.KnownBytes.{Consumes}

-- the source gave more than `limit` bytes
abbrev pub GaveOver : ℕ → Option (List ℕ) → Option (List ℕ) → Type 0
GaveOver limit old new = (bytes : List ℕ) × (limit < length bytes) × Consumes old new bytes

-- the source gave at most `limit` bytes
abbrev pub GaveUpTo : ℕ → Option (List ℕ) → Option (List ℕ) → Type 0
GaveUpTo limit old new = (bytes : List ℕ) × (length bytes ≤ limit) × Consumes old new bytes
