-- The least, the median and the greatest of some sizes.
use Rattle.std.specs.Prelude.{ℕ, ◌*◌, ◌≤◌, Bool, nat_le, max, List, [], ◌∷◌, length, filter, count_by, All, Contains, Option, Some, None}
use Rattle.region_list.specs.Shrink.{least}
use Rattle.heat_report.specs.declared.sizes.Spread.{Spread}

-- the greatest number of a list
abbrev pub greatest : List ℕ → ℕ
greatest [] = 0
greatest (n ∷ ns) = max n (greatest ns)

-- how many of the sizes are at most s
abbrev pub up_to : List ℕ → ℕ → ℕ
up_to sizes s = count_by (λ n. nat_le n s) sizes

-- whether at least half of the sizes are at most s
abbrev pub is_half : List ℕ → ℕ → Bool
is_half sizes s = nat_le (length sizes) (2 * up_to sizes s)

-- the least size for which at least half of the sizes are at most that size
abbrev pub median : List ℕ → ℕ
median sizes = least (filter (is_half sizes) sizes)

-- the spread of sizes, where there is one
abbrev pub spread_of : List ℕ → Option Spread
spread_of [] = None
spread_of (n ∷ ns) = Some (record { least = least (n ∷ ns); median = median (n ∷ ns); greatest = greatest (n ∷ ns) })

-- s is the median: a size, at least half of the sizes are at most s, and that holds of no smaller size
pub record IsMedian (sizes : List ℕ) (s : ℕ) : Type 0 where
  pub member : Contains sizes s
  pub half : length sizes ≤ 2 * up_to sizes s
  pub smallest : All (λ n. length sizes ≤ 2 * up_to sizes n → s ≤ n) sizes

-- what a spread is: a size that is at most each size, the median, and a size that is at least each size
pub record IsSpread (sizes : List ℕ) (s : Spread) : Type 0 where
  pub least_in : Contains sizes s.least
  pub least_is : All (λ n. s.least ≤ n) sizes
  pub median_is : IsMedian sizes s.median
  pub greatest_in : Contains sizes s.greatest
  pub greatest_is : All (λ n. n ≤ s.greatest) sizes
