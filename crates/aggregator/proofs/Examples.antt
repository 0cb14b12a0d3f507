-- Worked examples of aging and clearing, reckoned by hand.
use Rattle.std.proofs.Common.{◌≡◌, ℕ, [], ◌∷◌, refl}
use Rattle.damon_types.specs.declared.row.Row.{Row}
use Rattle.damon_types.specs.declared.scheme.Version.TheVariants.{One, Two}
use Rattle.aggregator.specs.Threshold.{threshold}
use Rattle.aggregator.specs.Aged.{aged}
use Rattle.aggregator.specs.Cleared.{cleared}

-- a row of one page
abbrev row : ℕ → ℕ → ℕ → Row
row count last age = record { target = 0; start = 0; pages = 1; count = count; last = last; age = age }

-- 29 div 10
tenth_of_the_highest : threshold (row 3 0 0 ∷ row 29 0 0 ∷ row 7 0 0 ∷ []) ≡ 2
tenth_of_the_highest = refl

no_rows : threshold [] ≡ 0
no_rows = refl

-- with threshold 2 a difference of 2 is a small change, and one of 3 is not, up or down
small_and_large_changes : aged 2 One (row 20 18 4 ∷ row 20 17 4 ∷ row 17 20 4 ∷ []) ≡ row 20 18 5 ∷ row 20 17 0 ∷ row 17 20 0 ∷ []
small_and_large_changes = refl

-- the greatest age stays
greatest_age : aged 2 One (row 20 20 4294967294 ∷ row 20 20 4294967295 ∷ []) ≡ row 20 20 4294967295 ∷ row 20 20 4294967295 ∷ []
greatest_age = refl

-- each count becomes the last count, and ages stay
counts_are_cleared : cleared (row 20 18 5 ∷ row 0 17 2 ∷ []) ≡ row 0 20 5 ∷ row 0 0 2 ∷ []
counts_are_cleared = refl

-- with threshold 2: in version Two a row that came into use begins anew, in version One not
comes_into_use : aged 2 Two (row 1 0 4 ∷ row 0 1 4 ∷ row 0 0 4 ∷ []) ≡ row 1 0 0 ∷ row 0 1 0 ∷ row 0 0 5 ∷ []
comes_into_use = refl

small_in_one : aged 2 One (row 1 0 4 ∷ row 0 0 4 ∷ []) ≡ row 1 0 5 ∷ row 0 0 5 ∷ []
small_in_one = refl
