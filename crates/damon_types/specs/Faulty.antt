-- Streams over memory that fail at stated calls, as contracts see them.
use Rattle.std.specs.Prelude.{ℕ, ◌==◌, Bool, List}
use Rattle.std.specs.List.{list_any}
use Rattle.damon_types.specs.declared.calls.Calls.{Calls}

-- the bytes left, the most bytes per call, the numbers of the calls that fail, and how often the source was read
pub record FaultyGiven : Type 0 where
  pub bytes : List ℕ
  pub piece : ℕ
  pub fails : List ℕ
  pub calls : Calls

-- the bytes written, how many fit in all, the most bytes per call, the numbers of the calls that fail, and how often the
-- sink was written to
pub record FaultyTaken : Type 0 where
  pub bytes : List ℕ
  pub room : ℕ
  pub piece : ℕ
  pub fails : List ℕ
  pub calls : Calls

-- whether the call with this number is to fail
abbrev pub is_listed : ℕ → List ℕ → Bool
is_listed call fails = list_any (λ n. n == call) fails
