-- Pages that were accessed, and those that were not.
use Rattle.std.proofs.Common.{◌≡◌, ℕ, ◌+◌, ◌≤◌, not, List, length, drop, ap, arith}
use Rattle.std.specs.Prelude.{◌==◌, nat_le}
use Rattle.std.proofs.lemmas.Bool.Decides.{nat_tests}
use Rattle.std.proofs.lemmas.List.{drop_all}
use Rattle.std.proofs.lemmas.List.Filters.{sum_by-filter_both}
use Rattle.damon_types.specs.declared.row.Row.{Row}
use Rattle.damon_types.specs.RowPages.{working_set, row_pages}
use Rattle.quota_goal.specs.declared.seen.Seen.{Seen}
use Rattle.quota_goal.specs.Seen.{cold_pages, seen, thousandths}

-- all pages are those that were accessed, and those that were not
hot_and_cold : (rows : List Row) → working_set rows + cold_pages rows ≡ row_pages rows
hot_and_cold rows = sum_by-filter_both (λ r. nat_le 1 r.count) (λ r. r.count == 0) (λ r. other r.count) (λ (r : Row). r.pages) rows
  where
    other : (n : ℕ) → (n == 0) ≡ not (nat_le 1 n)
    other n = grind (arith, nat_tests)

-- no row is left to be counted
pub record AreCounted (rows : List Row) (hot cold : ℕ) : Type 0 where
  pub hot_is : hot ≡ working_set rows
  pub cold_is : cold ≡ cold_pages rows
  pub all_are : hot + cold ≡ row_pages rows

pub all_counted : (rows : List Row) (i hot cold : ℕ) → length rows ≤ i → hot + working_set (drop i rows) ≡ working_set rows → cold + cold_pages (drop i rows) ≡ cold_pages rows → AreCounted rows hot cold
all_counted rows i hot cold past hots colds =
    let hot_is : hot ≡ working_set rows = omega (arith, hots, ap working_set (drop_all i rows past)) in
    let cold_is : cold ≡ cold_pages rows = omega (arith, colds, ap cold_pages (drop_all i rows past)) in
    record { hot_is = hot_is; cold_is = cold_is; all_are = omega (arith, hot_is, cold_is, hot_and_cold rows) }

-- the shares of what was counted
pub counted_shares : (rows : List Row) (hot cold a b : ℕ) → AreCounted rows hot cold → a ≡ thousandths hot (hot + cold) → b ≡ thousandths cold (hot + cold) → ◌≡◌ {A = Seen} (record { hot = a; cold = b }) (seen rows)
counted_shares rows hot cold a b are a_is b_is = cc
