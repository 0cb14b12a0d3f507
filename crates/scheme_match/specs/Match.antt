-- Which rows match a pattern.
use Rattle.std.specs.Prelude.{◌≡◌, ℕ, Bool, ◌&&◌, nat_le, List, map}
use Rattle.damon_types.specs.declared.row.Row.{Row}
use Rattle.damon_types.specs.declared.scheme.Pattern.{Pattern}
use Rattle.damon_types.specs.declared.scheme.Span.{Span}

-- whether a number lies in a span, whose ends belong to it
abbrev pub is_in_span : Span → ℕ → Bool
is_in_span s n = nat_le s.low n && nat_le n s.high

-- whether a row matches a pattern: its pages, its count and its age each lie in their span
abbrev pub is_match : Pattern → Row → Bool
is_match p r = is_in_span p.size r.pages && is_in_span p.count r.count && is_in_span p.age r.age

-- these are the numbers of the rows that a pattern tests: their pages, their counts and their ages
pub record AreTested (rows : List Row) (pages counts ages : List ℕ) : Type 0 where
  pub size : pages ≡ map (λ r. r.pages) rows
  pub count : counts ≡ map (λ r. r.count) rows
  pub age : ages ≡ map (λ r. r.age) rows
