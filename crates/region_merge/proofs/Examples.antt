-- Worked examples of merging, reckoned by hand.
use Rattle.std.proofs.Common.{◌≡◌, ℕ, [], ◌∷◌, refl}
use Rattle.damon_types.specs.declared.range.Range.{Range}
use Rattle.damon_types.specs.declared.row.Row.{Row}
use Rattle.region_merge.specs.Merged.{merged}

-- a row of the first target
abbrev row : ℕ → ℕ → ℕ → Row
row start pages count = record { target = 0; start = start; pages = pages; count = count; last = 0; age = 0 }

-- a range of the first target
abbrev range : ℕ → ℕ → Range
range first pages = record { target = 0; first = first; pages = pages; class = 0 }

-- the count is an average weighted by pages: 1 × 4 + 3 × 0 of 4 pages is 1
pages_weigh : merged (range 0 4 ∷ []) 4 4 (row 0 1 4 ∷ row 1 3 0 ∷ []) ≡ row 0 4 1 ∷ []
pages_weigh = refl

-- counts that differ by more than the threshold
threshold_parts : merged (range 0 4 ∷ []) 3 4 (row 0 1 4 ∷ row 1 3 0 ∷ []) ≡ row 0 1 4 ∷ row 1 3 0 ∷ []
threshold_parts = refl

-- pages up to the limit
limit_is_reached : merged (range 0 10 ∷ []) 0 10 (row 0 5 3 ∷ row 5 5 3 ∷ []) ≡ row 0 10 3 ∷ []
limit_is_reached = refl

-- pages over the limit
limit_parts : merged (range 0 11 ∷ []) 0 10 (row 0 5 3 ∷ row 5 6 3 ∷ []) ≡ row 0 5 3 ∷ row 5 6 3 ∷ []
limit_parts = refl

-- adjacent ranges: rows on both sides of the border are not joined, though their counts are equal
border_parts : merged (range 0 2 ∷ range 2 2 ∷ []) 9 9 (row 0 1 3 ∷ row 1 1 3 ∷ row 2 1 3 ∷ row 3 1 3 ∷ []) ≡ row 0 2 3 ∷ row 2 2 3 ∷ []
border_parts = refl

-- what was merged so far is compared, and not the row before: 0 and 2 become 1, to which 3 is joined, and 5 is too far from it
so_far_counts : merged (range 0 5 ∷ []) 2 9 (row 0 1 0 ∷ row 1 1 2 ∷ row 2 1 3 ∷ row 3 1 5 ∷ row 4 1 5 ∷ []) ≡ row 0 3 1 ∷ row 3 2 5 ∷ []
so_far_counts = refl

-- a row of the first target with all of its values
abbrev valued : ℕ → ℕ → ℕ → ℕ → ℕ → Row
valued start pages count last age = record { target = 0; start = start; pages = pages; count = count; last = last; age = age }

-- last counts and ages are such averages too: of the first three rows (2 × 7 + 0) / 3 is 4 and (2 × 1 + 6) / 3 is 2
all_values_are_averages : merged (range 3 5 ∷ []) 2 3 (valued 3 1 0 7 1 ∷ valued 4 1 2 8 2 ∷ valued 5 1 3 0 6 ∷ valued 6 1 5 1 0 ∷ valued 7 1 5 1 3 ∷ []) ≡ valued 3 3 1 4 2 ∷ valued 6 2 5 1 1 ∷ []
all_values_are_averages = refl
