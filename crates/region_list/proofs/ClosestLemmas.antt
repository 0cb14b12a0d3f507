-- The walk that finds the closest rows.
use Rattle.std.proofs.Common.{◌≡◌, ◌⊎◌, inl, inr, ℕ, zero, suc, ◌+◌, ◌^◌, ◌≤◌, ◌<◌, Bool, true, false, List, [], ◌∷◌, Option, Some, None, length, drop, refl, sym, ap, ◌∙◌, subst, add-one, leb-true, leb-false, arith}
use Rattle.std.specs.Prelude.{slice_get, nat_le, IfNone, IfSome, if◌then◌else◌}
use Rattle.std.specs.Option.{option_map}
use Rattle.std.proofs.lemmas.Bool.{cases_lt}
use Rattle.std.proofs.lemmas.List.{length-map}
use Rattle.std.proofs.Math.Seq.{drop-cons}
use Rattle.damon_types.specs.declared.range.Range.{Range}
use Rattle.damon_types.specs.declared.row.Row.{Row}
use Rattle.damon_types.specs.Ranges.{InOrder, end_of}
use Rattle.damon_types.specs.Span.{span_of, spans}
use Rattle.damon_types.proofs.Lemmas.{end_at}
use Rattle.region_list.specs.declared.shrink.Pair.{Pair}
use Rattle.region_list.specs.Rows.{no_row, row_at}
use Rattle.region_list.specs.Tiling.{Tiling}
use Rattle.region_list.specs.Walk.{TilesFrom, BeginsIn}
use Rattle.region_list.specs.Shrink.{in_one_range, difference, closest}
use Rattle.region_list.proofs.PairLemmas.{IsPair, pair_within, closest_is}
use Rattle.region_list.proofs.WalkLemmas.{Next, Step, step, tiling_rest, drop_tail, ordered_after, next_in, next_out, some_pair}

-- the rows from index i on begin in range k, which has this end
abbrev pub At : List Range → List Row → ℕ → ℕ → ℕ → Type 0
At all rows k i end = BeginsIn all (drop i rows) k end

-- the two rows from an index on
two_rows : (rows : List Row) (i : ℕ) → i + 1 < length rows → drop i rows ≡ row_at rows i ∷ row_at rows (i + 1) ∷ drop (suc (suc i)) rows
two_rows rows i within =
    drop-cons rows i no_row (omega arith)
    ∙ ap (λ rs. row_at rows i ∷ rs) (drop-cons rows (suc i) no_row (omega arith) ∙ ap (λ n. row_at rows n ∷ drop (suc (suc i)) rows) (sym (add-one i)))

-- a pair there is theirs
pair_here : (all : List Range) (rows : List Row) (i d : ℕ) (a b : Row) (more : List Row) → drop i rows ≡ a ∷ b ∷ more → IsPair all rows i d → (in_one_range all a b ≡ true) × (difference a b ≡ d)
pair_here all [] i d a b more is pair = absurd pair
pair_here all (r ∷ []) i d a b more is pair = absurd pair
pair_here all (r ∷ s ∷ rows) zero d a b more is pair =
    let first : r ≡ a = cc in
    let next : s ≡ b = cc in
    subst (λ x. (in_one_range all x b ≡ true) × (difference x b ≡ d)) first (subst (λ x. (in_one_range all r x ≡ true) × (difference r x ≡ d)) next pair)
pair_here all (r ∷ s ∷ rows) (suc i) d a b more is pair = pair_here all (s ∷ rows) i d a b more is pair

-- and they are a pair where one range holds both
here_pair : (all : List Range) (rows : List Row) (i : ℕ) (a b : Row) (more : List Row) → drop i rows ≡ a ∷ b ∷ more → in_one_range all a b ≡ true → IsPair all rows i (difference a b)
here_pair all [] zero a b more is one = absurd (cc)
here_pair all [] (suc i) a b more is one = absurd (cc)
here_pair all (r ∷ []) zero a b more is one = absurd (cc)
here_pair all (r ∷ []) (suc zero) a b more is one = absurd (cc)
here_pair all (r ∷ []) (suc (suc i)) a b more is one = absurd (cc)
here_pair all (r ∷ s ∷ rows) zero a b more is one =
    let first : a ≡ r = cc in
    let next : b ≡ s = cc in
    (ap (λ x. in_one_range all x s) (sym first) ∙ ap (λ x. in_one_range all a x) (sym next) ∙ one, ap (λ x. difference x s) (sym first) ∙ ap (λ x. difference a x) (sym next))
here_pair all (r ∷ s ∷ rows) (suc i) a b more is one = here_pair all (s ∷ rows) i a b more is one

-- the end of the first of the ranges from an index on
end_read : (all : List Range) (k : ℕ) (g : Range) (gs : List Range) (end : ℕ) → drop k all ≡ g ∷ gs → option_map end_of (slice_get all k) ≡ Some end → end ≡ end_of g
end_read [] zero g gs end is end_is = absurd (cc)
end_read [] (suc k) g gs end is end_is = absurd (cc)
end_read (h ∷ all) zero g gs end is end_is = let head : h ≡ g = cc in let same : end_of h ≡ end = cc in omega (arith, same, ap end_of head)
end_read (h ∷ all) (suc k) g gs end is end_is = end_read all k g gs end is end_is

-- the walk begins at the first range
pub at_begin : (all : List Range) (rows : List Row) (end : ℕ) → InOrder all → Tiling 1 all (spans rows) → 0 < length rows → option_map end_of (slice_get all 0) ≡ Some end → At all rows 0 0 end
at_begin all rows end ordered tiling some end_is =
    let begun = tiling_rest 0 0 all (spans rows) ordered tiling (omega (arith, length-map rows span_of)) in
    record { from = begun.0.first; range = begun.0; others = begun.1; ranges = begun.2; end_is = end_read all 0 begun.0 begun.1 end begun.2 end_is; rest = begun.4 }

-- the range is there
pub here_within : (all : List Range) (k : ℕ) (g : Range) (gs : List Range) → drop k all ≡ g ∷ gs → (k < length all) × (slice_get all k ≡ Some g)
here_within [] zero g gs is = absurd (cc)
here_within [] (suc k) g gs is = absurd (cc)
here_within (h ∷ all) zero g gs is = let head : h ≡ g = cc in (omega arith, ap (λ x. Some x) head)
here_within (h ∷ all) (suc k) g gs is = let rest = here_within all k g gs is in (omega (arith, rest.0), rest.1)

-- the rows after one
rows_after : (rows : List Row) (i : ℕ) (a : Row) (more : List Row) → drop i rows ≡ a ∷ more → drop (suc i) rows ≡ more
rows_after [] zero a more is = absurd (cc)
rows_after [] (suc i) a more is = absurd (cc)
rows_after (r ∷ rows) zero a more is = cc
rows_after (r ∷ rows) (suc i) a more is = rows_after rows i a more is

-- the step from one row to the next
pub at_step : (all : List Range) (rows : List Row) (k i end : ℕ) (a b : Row) (more : List Row) → drop i rows ≡ a ∷ b ∷ more → (at : At all rows k i end) → Step at.from at.range at.others a (b ∷ more)
at_step all rows k i end a b more is at = step at.from at.range at.others a (b ∷ more) (subst (λ rs. TilesFrom at.from (at.range ∷ at.others) (spans rs)) is at.rest)

-- a row ends with its range or before
pub at_fits : (all : List Range) (rows : List Row) (k i end : ℕ) (a b : Row) (more : List Row) → InOrder all → drop i rows ≡ a ∷ b ∷ more → At all rows k i end → a.start + a.pages < 2 ^ 32
at_fits all rows k i end a b more ordered is at =
    let s = at_step all rows k i end a b more is at in
    omega (arith, s.high, s.start, end_at 0 0 all k at.range ordered (here_within all k at.range at.others at.ranges).1)

-- a row that ends before its range is followed by one of the range
pub at_on : (all : List Range) (rows : List Row) (k i end : ℕ) (a b : Row) (more : List Row) → InOrder all → drop i rows ≡ a ∷ b ∷ more → At all rows k i end → (a.start + a.pages ≡ end → ⊥) → At all rows k (suc i) end × (in_one_range all a b ≡ true)
at_on all rows k i end a b more ordered is at on =
    let s = at_step all rows k i end a b more is at in by s s.next
  where
    by : Step at.from at.range at.others a (b ∷ more) → Next (at.from + a.pages) at.range at.others (spans (b ∷ more)) → At all rows k (suc i) end × (in_one_range all a b ≡ true)
    by s (inl rest) = (
      record { from = at.from + a.pages; range = at.range; others = at.others; ranges = at.ranges; end_is = at.end_is; rest = subst (λ rs. TilesFrom (at.from + a.pages) (at.range ∷ at.others) (spans rs)) (sym (rows_after rows i a (b ∷ more) is)) rest },
      next_in 0 0 all k at.from at.range at.others a b more ordered at.ranges s rest,
    )
    by s (inr over) = absurd (on (omega (arith, over.0, s.start, at.end_is)))

-- a row that ends with its range is followed by one of the next range
pub at_over : (all : List Range) (rows : List Row) (k i end : ℕ) (a b : Row) (more : List Row) → InOrder all → drop i rows ≡ a ∷ b ∷ more → At all rows k i end → a.start + a.pages ≡ end → (k + 1 < length all) × ((next_end : ℕ) → option_map end_of (slice_get all (k + 1)) ≡ Some next_end → At all rows (k + 1) (suc i) next_end) × (in_one_range all a b ≡ false)
at_over all rows k i end a b more ordered is at over = let s = at_step all rows k i end a b more is at in by s s.next
  where
    by : Step at.from at.range at.others a (b ∷ more) → Next (at.from + a.pages) at.range at.others (spans (b ∷ more)) → (k + 1 < length all) × ((next_end : ℕ) → option_map end_of (slice_get all (k + 1)) ≡ Some next_end → At all rows (k + 1) (suc i) next_end) × (in_one_range all a b ≡ false)
    by s (inl rest) = absurd (omega (arith, rest.4, s.start, at.end_is))
    by s (inr passed) =
        let begun = tiling_rest at.range.target (end_of at.range) at.others (spans (b ∷ more)) (ordered_after 0 0 all k at.range at.others ordered at.ranges) passed.1 (omega arith) in
        let tail : drop (k + 1) all ≡ begun.0 ∷ begun.1 = ap (λ n. drop n all) (add-one k) ∙ drop_tail all k at.range at.others at.ranges ∙ begun.2 in
        let rest : TilesFrom begun.0.first (begun.0 ∷ begun.1) (spans (drop (suc i) rows)) = subst (λ rs. TilesFrom begun.0.first (begun.0 ∷ begun.1) (spans rs)) (sym (rows_after rows i a (b ∷ more) is)) begun.4 in (
          (here_within all (k + 1) begun.0 begun.1 tail).0,
          λ next_end end_is. record { from = begun.0.first; range = begun.0; others = begun.1; ranges = tail; end_is = end_read all (k + 1) begun.0 begun.1 next_end tail end_is; rest = rest },
          next_out 0 0 all k at.from at.range at.others a b more ordered at.ranges s passed.1,
        )

-- the pairs before an index have been seen, of which this one is the first of the closest, and none differs by 0
abbrev pub Seen : List Range → List Row → ℕ → Option Pair → Type 0
Seen all rows i None = (k d : ℕ) → k < i → IsPair all rows k d → ⊥
Seen all rows i (Some p) = IsPair all rows p.first p.difference × ((k d : ℕ) → k < i → IsPair all rows k d → p.difference ≤ d) × ((k : ℕ) → k < p.first → IsPair all rows k p.difference → ⊥) × (0 < p.difference)

-- two rows that are no pair
seen_apart : (all : List Range) (rows : List Row) (i : ℕ) (best : Option Pair) (a b : Row) (more : List Row) → drop i rows ≡ a ∷ b ∷ more → in_one_range all a b ≡ false → Seen all rows i best → Seen all rows (suc i) best
seen_apart all rows i best a b more is apart seen = by best seen
  where
    earlier : (k d : ℕ) → k < suc i → IsPair all rows k d → k < i
    earlier k d before pair = at_most (cases_lt k i)
      where
        at_most : (k < i) ⊎ (i ≤ k) → k < i
        at_most (inl less) = less
        at_most (inr more_than) =
            let same : k ≡ i = omega arith in
            let one = (pair_here all rows i d a b more is (subst (λ (n : ℕ). IsPair all rows n d) same pair)).0 in
            absurd (cc (one, apart))

    by : (best : Option Pair) → Seen all rows i best → Seen all rows (suc i) best
    by None seen = λ k d before pair. seen k d (earlier k d before pair) pair
    by (Some p) seen = (seen.0, λ k d before pair. seen.1 k d (earlier k d before pair) pair, seen.2, seen.3)

-- two rows that are a pair
seen_pair : (all : List Range) (rows : List Row) (i : ℕ) (best : Option Pair) (closer : Pair) (a b : Row) (more : List Row) → drop i rows ≡ a ∷ b ∷ more → in_one_range all a b ≡ true → 0 < difference a b → Seen all rows i best → IfNone best (closer ≡ record { first = i; difference = difference a b }) → IfSome best (λ p. closer ≡ (if nat_le p.difference (difference a b) then p else record { first = i; difference = difference a b })) → Seen all rows (suc i) (Some closer)
seen_pair all rows i best closer a b more is one some seen none_is some_is = by best seen none_is some_is
  where
    next : Pair
    next = record { first = i; difference = difference a b }

    at_last : (e : ℕ) → ((k d : ℕ) → k < i → IsPair all rows k d → e ≤ d) → e ≤ difference a b → (k d : ℕ) → k < suc i → IsPair all rows k d → e ≤ d
    at_last e low here k d before pair = at_most (cases_lt k i)
      where
        at_most : (k < i) ⊎ (i ≤ k) → e ≤ d
        at_most (inl less) = low k d less pair
        at_most (inr more_than) =
            let same : k ≡ i = omega arith in
            omega (arith, (pair_here all rows i d a b more is (subst (λ (n : ℕ). IsPair all rows n d) same pair)).1, here)

    kept : (p : Pair) → Seen all rows i (Some p) → p.difference ≤ difference a b → Seen all rows (suc i) (Some p)
    kept p seen less = (seen.0, at_last p.difference seen.1 less, seen.2, seen.3)

    replaced : (p : Pair) → Seen all rows i (Some p) → difference a b < p.difference → Seen all rows (suc i) (Some next)
    replaced p seen less = (
      here_pair all rows i a b more is one,
      at_last (difference a b) (λ k d before pair. omega (arith, seen.1 k d before pair, less)) (omega arith),
      λ k before pair. absurd (omega (arith, seen.1 k (difference a b) before pair, less)),
      some,
    )

    first : Seen all rows i None → Seen all rows (suc i) (Some next)
    first seen = (
      here_pair all rows i a b more is one,
      at_last (difference a b) (λ k d before pair. absurd (seen k d before pair)) (omega arith),
      λ k before pair. seen k (difference a b) before pair,
      some,
    )

    chosen : (p : Pair) → Seen all rows i (Some p) → (v : Bool) → nat_le p.difference (difference a b) ≡ v → Seen all rows (suc i) (Some (if v then p else next))
    chosen p seen true test = kept p seen (leb-true p.difference (difference a b) test)
    chosen p seen false test = replaced p seen (leb-false p.difference (difference a b) test)

    by : (best : Option Pair) → Seen all rows i best → IfNone best (closer ≡ next) → IfSome best (λ p. closer ≡ (if nat_le p.difference (difference a b) then p else next)) → Seen all rows (suc i) (Some closer)
    by None seen none_is some_is = subst (λ p. Seen all rows (suc i) (Some p)) (sym none_is) (first seen)
    by (Some p) seen none_is some_is = subst (λ p. Seen all rows (suc i) (Some p)) (sym some_is) (chosen p seen (nat_le p.difference (difference a b)) refl)

-- all pairs have been seen
pub seen_all : (all : List Range) (rows : List Row) (i : ℕ) (p : Pair) → length rows ≤ i + 1 → Seen all rows i (Some p) → closest all rows ≡ p.first
seen_all all rows i p whole seen = closest_is all rows p.first p.difference seen.0 (λ k e pair. seen.1 k e (omega (arith, whole, pair_within all rows k e pair)) pair) seen.2

-- rows with equal counts after pairs that all differ
seen_equal : (all : List Range) (rows : List Row) (i : ℕ) (best : Option Pair) (a b : Row) (more : List Row) → drop i rows ≡ a ∷ b ∷ more → in_one_range all a b ≡ true → difference a b ≡ 0 → Seen all rows i best → closest all rows ≡ i
seen_equal all rows i best a b more is one equal seen =
    closest_is all rows i 0 (subst (λ (n : ℕ). IsPair all rows i n) equal (here_pair all rows i a b more is one)) (λ k e pair. omega arith) (by best seen)
  where
    by : (best : Option Pair) → Seen all rows i best → (k : ℕ) → k < i → IsPair all rows k 0 → ⊥
    by None seen k before pair = seen k 0 before pair
    by (Some p) seen k before pair = absurd (omega (arith, seen.1 k 0 before pair, seen.3))

-- what the walk keeps
pub record Walk (all : List Range) (rows : List Row) (k i end : ℕ) (best : Option Pair) : Type 0 where
  pub at : At all rows k i end
  pub seen : Seen all rows i best

-- before the first row
pub walk_begin : (all : List Range) (rows : List Row) (end : ℕ) → InOrder all → Tiling 1 all (spans rows) → 0 < length rows → option_map end_of (slice_get all 0) ≡ Some end → Walk all rows 0 0 end None
walk_begin all rows end ordered tiling some end_is = record { at = at_begin all rows end ordered tiling some end_is; seen = λ k d before pair. absurd (omega (arith, before)) }

-- from the last row of a range to the next
pub walk_over : (all : List Range) (rows : List Row) (k i end next_end : ℕ) (best : Option Pair) → InOrder all → i + 1 < length rows → Walk all rows k i end best → (row_at rows i).start + (row_at rows i).pages ≡ end → option_map end_of (slice_get all (k + 1)) ≡ Some next_end → Walk all rows (k + 1) (i + 1) next_end best
walk_over all rows k i end next_end best ordered within walk over end_is =
    let is = two_rows rows i within in
    let moved = at_over all rows k i end (row_at rows i) (row_at rows (i + 1)) (drop (suc (suc i)) rows) ordered is walk.at over in
    let onward : Walk all rows (k + 1) (suc i) next_end best = record { at = moved.1 next_end end_is; seen = seen_apart all rows i best (row_at rows i) (row_at rows (i + 1)) (drop (suc (suc i)) rows) is moved.2 walk.seen } in
    subst (λ (n : ℕ). Walk all rows (k + 1) n next_end best) (sym (add-one i)) onward

-- there is a next range
pub more_ranges : (all : List Range) (rows : List Row) (k i end : ℕ) (best : Option Pair) → InOrder all → i + 1 < length rows → Walk all rows k i end best → (row_at rows i).start + (row_at rows i).pages ≡ end → k + 1 < length all
more_ranges all rows k i end best ordered within walk over =
    (at_over all rows k i end (row_at rows i) (row_at rows (i + 1)) (drop (suc (suc i)) rows) ordered (two_rows rows i within) walk.at over).0

-- from a row to the next of its range
pub walk_on : (all : List Range) (rows : List Row) (k i end d : ℕ) (best : Option Pair) (closer : Pair) → InOrder all → i + 1 < length rows → Walk all rows k i end best → ((row_at rows i).start + (row_at rows i).pages ≡ end → ⊥) → d ≡ difference (row_at rows i) (row_at rows (i + 1)) → (d ≡ 0 → ⊥) → IfNone best (closer ≡ record { first = i; difference = d }) → IfSome best (λ p. closer ≡ (if nat_le p.difference d then p else record { first = i; difference = d })) → Walk all rows k (i + 1) end (Some closer)
walk_on all rows k i end d best closer ordered within walk on d_is some none_is some_is =
    let a = row_at rows i in
    let b = row_at rows (i + 1) in
    let more = drop (suc (suc i)) rows in
    let is = two_rows rows i within in
    let moved = at_on all rows k i end a b more ordered is walk.at on in
    let none : IfNone best (closer ≡ record { first = i; difference = difference a b }) = subst (λ (n : ℕ). IfNone best (closer ≡ record { first = i; difference = n })) d_is none_is in
    let chosen : IfSome best (λ p. closer ≡ (if nat_le p.difference (difference a b) then p else record { first = i; difference = difference a b })) = subst (λ (n : ℕ). IfSome best (λ p. closer ≡ (if nat_le p.difference n then p else record { first = i; difference = n }))) d_is some_is in
    let onward : Walk all rows k (suc i) end (Some closer) = record { at = moved.0; seen = seen_pair all rows i best closer a b more is moved.1 (positive (difference a b) (λ zero_is. some (d_is ∙ zero_is))) walk.seen none chosen } in
    subst (λ (n : ℕ). Walk all rows k n end (Some closer)) (sym (add-one i)) onward
  where
    positive : (n : ℕ) → (n ≡ 0 → ⊥) → 0 < n
    positive zero some = absurd (some refl)
    positive (suc n) some = omega arith

-- rows with equal counts are the closest
pub walk_equal : (all : List Range) (rows : List Row) (k i end : ℕ) (best : Option Pair) → InOrder all → i + 1 < length rows → Walk all rows k i end best → ((row_at rows i).start + (row_at rows i).pages ≡ end → ⊥) → difference (row_at rows i) (row_at rows (i + 1)) ≡ 0 → closest all rows ≡ i
walk_equal all rows k i end best ordered within walk on equal =
    let is = two_rows rows i within in
    let moved = at_on all rows k i end (row_at rows i) (row_at rows (i + 1)) (drop (suc (suc i)) rows) ordered is walk.at on in
    seen_equal all rows i best (row_at rows i) (row_at rows (i + 1)) (drop (suc (suc i)) rows) is moved.1 equal walk.seen

-- a row ends where its number still fits
pub walk_fits : (all : List Range) (rows : List Row) (k i end : ℕ) (best : Option Pair) → InOrder all → i + 1 < length rows → Walk all rows k i end best → (row_at rows i).start + (row_at rows i).pages < 2 ^ 32
walk_fits all rows k i end best ordered within walk =
    at_fits all rows k i end (row_at rows i) (row_at rows (i + 1)) (drop (suc (suc i)) rows) ordered (two_rows rows i within) walk.at

-- the walk has found a pair
pub walk_finds : (all : List Range) (rows : List Row) (k i end : ℕ) → InOrder all → Tiling 1 all (spans rows) → length all < length rows → length rows ≤ i + 1 → Walk all rows k i end None → ⊥
walk_finds all rows k i end ordered tiling more whole walk =
    let found = some_pair all rows ordered tiling more in
    walk.seen found.0 found.1 (omega (arith, whole, pair_within all rows found.0 found.1 found.2)) found.2
