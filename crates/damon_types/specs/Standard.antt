-- Streams over readers and writers of std, as contracts see them.
use Rattle.damon_types.specs.declared.calls.Calls.{Calls}

-- the reader or the writer, and how often it was called
pub record Counted (T : Type 0) : Type 0 where
  pub inner : T
  pub calls : Calls
