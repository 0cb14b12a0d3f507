-- Rows that are reported, over a space of ten pages.
use Rattle.std.proofs.Common.{ℕ, List, [], ◌∷◌, refl, arith}
use Rattle.std.proofs.lemmas.List.Elements.{All-from_recursion}
use Rattle.damon_types.specs.declared.range.Range.{Range}
use Rattle.damon_types.specs.declared.row.Row.{Row}
use Rattle.damon_types.specs.declared.space.Target.{Target}
use Rattle.damon_types.specs.Span.{span_of}
use Rattle.damon_types.specs.Within.{LiesInTarget}
use Rattle.damon_core.specs.Reported.{IsReported}
use Rattle.damon_core.specs.State.{Core}

abbrev ten_pages : List Target
ten_pages = record { base = 0; pages = 10 } ∷ []

abbrev row : ℕ → ℕ → ℕ → Row
row start pages count = record { target = 0; start = start; pages = pages; count = count; last = 0; age = 0 }

abbrev range : ℕ → ℕ → Range
range first pages = record { target = 0; first = first; pages = pages; class = 0 }

-- a monitor of the space that aggregates after this many passes, and reported these rows
abbrev reports : Core → ℕ → List Row → Core
reports c aggr rows = record c { space = ten_pages; attrs = record c.attrs { aggr = aggr }; report = record c.report { rows = rows } }

-- a page between two ranges is in no row; the greatest count
two_ranges : (c : Core) → IsReported (reports c 1 (row 0 4 1000 ∷ row 5 2 0 ∷ row 7 3 0 ∷ []))
two_ranges c =
    record {
      ranges = range 0 4 ∷ range 5 5 ∷ [];
      unit = 2;
      wide = omega arith;
      order = (omega arith, omega arith, record { pages = omega arith; end = omega arith }, (omega arith, omega arith, record { pages = omega arith; end = omega arith }, tt));
      within = All-from_recursion (LiesInTarget ten_pages) (range 0 4 ∷ range 5 5 ∷ []) (record { target = omega arith; from = omega arith; to = omega arith }, (record { target = omega arith; from = omega arith; to = omega arith }, tt));
      tiles = (
        span_of (row 0 4 1000) ∷ [],
        span_of (row 5 2 0) ∷ span_of (row 7 3 0) ∷ [],
        refl,
        (refl, refl, omega arith, refl),
        (span_of (row 5 2 0) ∷ span_of (row 7 3 0) ∷ [], [], refl, (refl, refl, omega arith, (refl, refl, omega arith, refl)), refl),
      );
      counts = (omega arith, (omega arith, (omega arith, tt)));
      aggr = omega arith;
    }

count_too_large : (c : Core) → IsReported (reports c 1 (row 0 4 1001 ∷ [])) → ⊥
count_too_large c is = omega (arith, is.counts.0)

no_pass : (c : Core) → IsReported (reports c 0 []) → ⊥
no_pass c is = omega (arith, is.aggr)
