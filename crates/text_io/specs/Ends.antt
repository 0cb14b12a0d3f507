-- A source or a sink before or after a call.
use Rattle.std.specs.Prelude.{ℕ, List, Option}
use Rattle.damon_types.specs.declared.calls.Calls.{Calls}

-- the bytes that it tells, those left of a source and those taken by a sink, and how often it was called
pub record Ends : Type 0 where
  pub bytes : Option (List ℕ)
  pub calls : Calls
