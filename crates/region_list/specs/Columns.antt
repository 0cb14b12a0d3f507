-- Rows in columns: one list of numbers for each field.
use Rattle.std.specs.Prelude.{◌≡◌, ℕ, ◌≤◌, ◌<◌, ◌^◌, List, [], ◌∷◌, length, map, drop, slice_index}
use Rattle.damon_types.specs.declared.row.Row.{Row}

-- the rows of six columns: row i has the numbers with index i, and there are as many rows as targets
abbrev pub zipped : List ℕ → List ℕ → List ℕ → List ℕ → List ℕ → List ℕ → List Row
zipped [] starts pages counts lasts ages = []
zipped (t ∷ ts) starts pages counts lasts ages =
    record { target = t; start = slice_index starts 0; pages = slice_index pages 0; count = slice_index counts 0; last = slice_index lasts 0; age = slice_index ages 0 }
    ∷ zipped ts (drop 1 starts) (drop 1 pages) (drop 1 counts) (drop 1 lasts) (drop 1 ages)

-- each column has the numbers of its field
pub record AreColumns (rows : List Row) (targets starts pages counts lasts ages : List ℕ) : Type 0 where
  pub target : targets ≡ map (λ r. r.target) rows
  pub start : starts ≡ map (λ r. r.start) rows
  pub size : pages ≡ map (λ r. r.pages) rows
  pub count : counts ≡ map (λ r. r.count) rows
  pub last : lasts ≡ map (λ r. r.last) rows
  pub age : ages ≡ map (λ r. r.age) rows

-- these are the counts, the last counts and the ages of the rows
pub record AreValues (rows : List Row) (counts lasts ages : List ℕ) : Type 0 where
  pub count : counts ≡ map (λ r. r.count) rows
  pub last : lasts ≡ map (λ r. r.last) rows
  pub age : ages ≡ map (λ r. r.age) rows
