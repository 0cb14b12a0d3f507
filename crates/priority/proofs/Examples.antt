-- Worked examples of scores and choices, computed by hand.
use Rattle.std.proofs.Common.{◌≡◌, ℕ, true, false, [], ◌∷◌, Some, None, refl, arith}
use Rattle.std.specs.Prelude.{List, filter, replicate, slice_set}
use Rattle.damon_types.specs.declared.row.Row.{Row}
use Rattle.damon_types.specs.declared.scheme.Prefer.{Prefer}
use Rattle.damon_types.specs.declared.scheme.Prefer.TheVariants.{Hot, Cold}
use Rattle.damon_types.specs.declared.scheme.Action.TheVariants.{Stat}
use Rattle.damon_types.specs.declared.scheme.Scheme.{Scheme}
use Rattle.damon_types.specs.declared.scheme.Span.{Span}
use Rattle.priority.specs.declared.candidates.Candidate.{Candidate}
use Rattle.priority.specs.Score.{score_of}
use Rattle.priority.specs.Order.{in_order}
use Rattle.priority.specs.Share.{has_share, with_shares}
use Rattle.priority.specs.Chosen.{leaves_pages, lowest_of, taken_of}
use Rattle.priority.specs.Best.{IsBest}
use Rattle.priority.specs.Histogram.{sum_from}

-- a row of 100 pages that was accessed in 5 passes
abbrev row : Row
row = record { target = 0; start = 0; pages = 100; count = 5; last = 0; age = 200 }

abbrev scheme : ℕ → ℕ → ℕ → Prefer → Scheme
scheme size count age prefer =
    let any : Span = record { low = 0; high = 4294967295 } in
    record { action = Stat; pattern = record { size = any; count = any; age = any }; quota = None; weights = record { size = size; count = count; age = age }; prefer = prefer; marks = None; filters = [] }

-- 9, 24 and 99 of 99: 9 + 48 + 99 divided by 4
hot_score : score_of row 1000 20 (scheme 1 2 1 Hot) ≡ 39
hot_score = refl

-- 9, 75 and 99: 9 + 150 + 99 divided by 4
cold_score : score_of row 1000 20 (scheme 1 2 1 Cold) ≡ 64
cold_score = refl

no_weights : score_of row 1000 20 (scheme 0 0 0 Hot) ≡ 0
no_weights = refl

-- a candidate of the first target with two passing pages
abbrev two_pages : ℕ → ℕ → ℕ → Candidate
two_pages start score share = record { target = 0; start = start; score = score; passing = 2; share = share }

-- three candidates, by address, with the shares of an earlier choice
abbrev three : List Candidate
three = two_pages 0 50 7 ∷ two_pages 2 50 7 ∷ two_pages 4 90 7 ∷ []

-- three pages are left: the two of the highest score, and one of the first of those that score 50
three_left : in_order (with_shares (Some 3) three) ≡ two_pages 4 90 2 ∷ two_pages 0 50 1 ∷ two_pages 2 50 0 ∷ []
three_left = refl

-- so the choice leaves two candidates
three_chosen : filter has_share (in_order (with_shares (Some 3) three)) ≡ two_pages 4 90 2 ∷ two_pages 0 50 1 ∷ []
three_chosen = refl

three_taken : taken_of (with_shares (Some 3) three) ≡ 3
three_taken = refl

three_lowest : lowest_of (with_shares (Some 3) three) ≡ Some 50
three_lowest = refl

three_exceed : leaves_pages (with_shares (Some 3) three) ≡ true
three_exceed = refl

-- a candidate of which no page is taken does not count for the lowest score
two_lowest : lowest_of (with_shares (Some 2) three) ≡ Some 90
two_lowest = refl

-- nothing is left
none_lowest : lowest_of (with_shares (Some 0) three) ≡ None
none_lowest = refl

-- six pages are left, or there is no quota: all are taken
six_exceed : leaves_pages (with_shares (Some 6) three) ≡ false
six_exceed = refl

no_quota : in_order (with_shares None three) ≡ two_pages 4 90 2 ∷ two_pages 0 50 2 ∷ two_pages 2 50 2 ∷ []
no_quota = refl

-- of equal scores the smaller target comes first, also with the greater start
targets_first : in_order (record { target = 1; start = 0; score = 5; passing = 1; share = 0 } ∷ record { target = 0; start = 9; score = 5; passing = 1; share = 0 } ∷ []) ≡ record { target = 0; start = 9; score = 5; passing = 1; share = 0 } ∷ record { target = 1; start = 0; score = 5; passing = 1; share = 0 } ∷ []
targets_first = refl

-- shares by address are not the best choice: one page of the first and both of the last have a greater sum of scores
by_address : IsBest (Some 3) (two_pages 0 50 2 ∷ two_pages 2 50 1 ∷ two_pages 4 90 0 ∷ []) → ⊥
by_address best =
    let other = best.most (1 ∷ 0 ∷ 2 ∷ []) (record { each = (omega arith, (omega arith, (omega arith, tt))); within = omega arith }) in
    absurd (omega (arith, other))

-- 2 and 2 at 50 and 2 at 90
abbrev sums : List ℕ
sums = slice_set (slice_set (replicate 100 0) 50 4) 90 2

sums_from : (sum_from sums 50 ≡ 6) × (sum_from sums 91 ≡ 0) × (sum_from sums 90 ≡ 2)
sums_from = (refl, refl, refl)
