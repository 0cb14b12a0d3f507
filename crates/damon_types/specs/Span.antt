-- Where a row lies.
use Rattle.std.specs.Prelude.{ℕ, List, map}
use Rattle.damon_types.specs.declared.row.Row.{Row}

-- a run of pages of a target
pub record Span : Type 0 where
  pub target : ℕ
  pub start : ℕ
  pub pages : ℕ

-- where a row lies
abbrev pub span_of : Row → Span
span_of r = record { target = r.target; start = r.start; pages = r.pages }

-- where each row lies
abbrev pub spans : List Row → List Span
spans rows = map span_of rows
