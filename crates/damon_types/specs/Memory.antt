-- Streams over memory, as contracts see them.
use Rattle.std.specs.Prelude.{ℕ, ◌-◌, List, length}
use Rattle.damon_types.specs.declared.calls.Calls.{Calls}

-- the bytes left, and how often the source was read
pub record Given : Type 0 where
  pub bytes : List ℕ
  pub calls : Calls

-- the bytes written, how many fit in all, and how often the sink was written to
pub record Taken : Type 0 where
  pub bytes : List ℕ
  pub room : ℕ
  pub calls : Calls

-- how many more bytes fit
abbrev pub spare : Taken → ℕ
spare s = s.room - length s.bytes
