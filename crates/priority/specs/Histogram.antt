-- Histograms: lists of sums.
use Rattle.std.specs.Prelude.{ℕ, List, sum, drop}

-- the sum of the numbers from an index upward
abbrev pub sum_from : List ℕ → ℕ → ℕ
sum_from sums index = sum (drop index sums)
