-- What merging keeps: the tiling, a row at least, and a bound on the counts.
use Rattle.std.proofs.Common.{◌≡◌, ℕ, ◌+◌, ◌*◌, ◌≤◌, ◌<◌, Bool, true, false, List, [], ◌∷◌, ◌++◌, length, append_assoc, refl, ◌∙◌, arith}
use Rattle.std.proofs.Math.Nat.{mul_comm, mul-add, mul-le-mul_right, div-le_of_le-mul}
use Rattle.std.specs.Prelude.{◌&&◌}
use Rattle.std.specs.List.{AllByRecursion}
use Rattle.damon_types.specs.declared.range.Range.{Range}
use Rattle.damon_types.specs.declared.row.Row.{Row}
use Rattle.damon_types.specs.Ranges.{InOrder}
use Rattle.damon_types.specs.Span.{spans}
use Rattle.region_list.specs.Tiling.{Tiling}
use Rattle.region_list.specs.Join.{average, join}
use Rattle.region_list.specs.Shrink.{in_one_range}
use Rattle.region_list.proofs.Lemmas.{joined_tiling}
use Rattle.region_merge.specs.Merged.{may_join, merged_from, merged}

-- the law of joined rows, at one list of ranges
abbrev JoinsTile : ℕ → List Range → Type 0
JoinsTile unit gs = (front back : List Row) (a b : Row) → Tiling unit gs (spans (front ++ a ∷ b ∷ back)) → in_one_range gs a b ≡ true → Tiling unit gs (spans (front ++ join a b ∷ back))

-- rows that may be joined lie in one range
one_range : (u v : Bool) → (u && v) ≡ true → u ≡ true
one_range true v both = refl
one_range false v both = both

-- the rows behind those in front may be merged
tiling_from : (unit threshold limit : ℕ) (gs : List Range) (front rows : List Row) (a : Row) → JoinsTile unit gs → Tiling unit gs (spans (front ++ a ∷ rows)) → Tiling unit gs (spans (front ++ merged_from gs threshold limit a rows))
tiling_from unit threshold limit gs front [] a law tiling = tiling
tiling_from unit threshold limit gs front (b ∷ rows) a law tiling = by (may_join gs threshold limit a b) refl (tiling_from unit threshold limit gs front rows (join a b) law) (tiling_from unit threshold limit gs (front ++ a ∷ []) rows b law)
  where
    by : (v : Bool) → may_join gs threshold limit a b ≡ v → (Tiling unit gs (spans (front ++ join a b ∷ rows)) → Tiling unit gs (spans (front ++ merged_from gs threshold limit (join a b) rows))) → (Tiling unit gs (spans ((front ++ a ∷ []) ++ b ∷ rows)) → Tiling unit gs (spans ((front ++ a ∷ []) ++ merged_from gs threshold limit b rows))) → Tiling unit gs (spans (front ++ merged_from gs threshold limit a (b ∷ rows)))
    by true may on next = rw may (on (law front rows a b tiling (one_range _ _ may)))
    by false may on next =
        let later : Tiling unit gs (spans ((front ++ a ∷ []) ++ b ∷ rows)) = rw append_assoc tiling in
        rw may (rw append_assoc at (next later))

-- merged rows tile as before
pub tiling_merged : (unit : ℕ) (gs : List Range) (threshold limit : ℕ) (rows : List Row) → 1 ≤ unit → InOrder gs → Tiling unit gs (spans rows) → Tiling unit gs (spans (merged gs threshold limit rows))
tiling_merged unit gs threshold limit [] some ordered tiling = tiling
tiling_merged unit gs threshold limit (a ∷ rows) some ordered tiling = tiling_from unit threshold limit gs [] rows a (λ front back x y before one. joined_tiling unit gs front back x y some ordered before one) tiling

-- there is a row, and there are no more than there were
pub length-merged_from : (threshold limit : ℕ) (gs : List Range) (a : Row) (rows : List Row) → (1 ≤ length (merged_from gs threshold limit a rows)) × (length (merged_from gs threshold limit a rows) ≤ length rows + 1)
length-merged_from threshold limit gs a [] = (omega arith, omega arith)
length-merged_from threshold limit gs a (b ∷ rows) = by (may_join gs threshold limit a b) refl (length-merged_from threshold limit gs (join a b) rows) (length-merged_from threshold limit gs b rows)
  where
    by : (v : Bool) → may_join gs threshold limit a b ≡ v → (1 ≤ length (merged_from gs threshold limit (join a b) rows)) × (length (merged_from gs threshold limit (join a b) rows) ≤ length rows + 1) → (1 ≤ length (merged_from gs threshold limit b rows)) × (length (merged_from gs threshold limit b rows) ≤ length rows + 1) → (1 ≤ length (merged_from gs threshold limit a (b ∷ rows))) × (length (merged_from gs threshold limit a (b ∷ rows)) ≤ length (b ∷ rows) + 1)
    by true may on next = rw may (on.0, omega (arith, on.1))
    by false may on next = rw may (omega arith, omega (arith, next.1))

pub length_merged : (gs : List Range) (threshold limit : ℕ) (rows : List Row) → length (merged gs threshold limit rows) ≤ length rows
length_merged gs threshold limit [] = omega arith
length_merged gs threshold limit (a ∷ rows) = omega (arith, (length-merged_from threshold limit gs a rows).1)

pub some_merged : (gs : List Range) (threshold limit : ℕ) (rows : List Row) → 0 < length rows → 0 < length (merged gs threshold limit rows)
some_merged gs threshold limit [] some = some
some_merged gs threshold limit (a ∷ rows) some = (length-merged_from threshold limit gs a rows).0

-- an average is at most what both numbers are at most
average_le : (most x x_pages y y_pages : ℕ) → x ≤ most → y ≤ most → average x x_pages y y_pages ≤ most
average_le most x x_pages y y_pages x_le y_le =
    let product : (x_pages + y_pages) * most ≡ most * x_pages + most * y_pages = mul_comm (x_pages + y_pages) most ∙ mul-add most x_pages y_pages in
    div-le_of_le-mul (x_pages + y_pages) (omega (arith, product, mul-le-mul_right x_pages x_le, mul-le-mul_right y_pages y_le))

counts_from : (most threshold limit : ℕ) (gs : List Range) (a : Row) (rows : List Row) → a.count ≤ most → AllByRecursion (λ (r : Row). r.count ≤ most) rows → AllByRecursion (λ (r : Row). r.count ≤ most) (merged_from gs threshold limit a rows)
counts_from most threshold limit gs a [] first others = (first, tt)
counts_from most threshold limit gs a (b ∷ rows) first others = by (may_join gs threshold limit a b) refl (counts_from most threshold limit gs (join a b) rows (average_le most a.count a.pages b.count b.pages first others.0) others.1) (counts_from most threshold limit gs b rows others.0 others.1)
  where
    by : (v : Bool) → may_join gs threshold limit a b ≡ v → AllByRecursion (λ (r : Row). r.count ≤ most) (merged_from gs threshold limit (join a b) rows) → AllByRecursion (λ (r : Row). r.count ≤ most) (merged_from gs threshold limit b rows) → AllByRecursion (λ (r : Row). r.count ≤ most) (merged_from gs threshold limit a (b ∷ rows))
    by true may on next = rw may on
    by false may on next = rw may (first, next)

-- a bound on all counts still holds
pub counts_merged : (gs : List Range) (threshold limit most : ℕ) (rows : List Row) → AllByRecursion (λ (r : Row). r.count ≤ most) rows → AllByRecursion (λ (r : Row). r.count ≤ most) (merged gs threshold limit rows)
counts_merged gs threshold limit most [] counts = tt
counts_merged gs threshold limit most (a ∷ rows) counts = counts_from most threshold limit gs a rows counts.0 counts.1
