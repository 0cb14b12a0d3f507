-- What the laws say of joined rows, and of a walk along the rows of a tiling.
use Rattle.std.proofs.Common.{◌≡◌, inl, inr, ℕ, ◌+◌, ◌^◌, ◌≤◌, ◌<◌, true, false, List, Some, ◌∷◌, ◌++◌, length, refl, subst, arith}
use Rattle.std.specs.Prelude.{slice_get}
use Rattle.std.specs.List.{AllByRecursion}
use Rattle.std.specs.Option.{option_map}
use Rattle.damon_types.specs.declared.range.Range.{Range}
use Rattle.damon_types.specs.declared.row.Row.{Row}
use Rattle.damon_types.specs.Ranges.{InOrder, end_of}
use Rattle.damon_types.specs.Span.{spans}
use Rattle.damon_types.proofs.Lemmas.{end_at}
use Rattle.region_list.specs.Tiling.{Tiling}
use Rattle.region_list.specs.Join.{join}
use Rattle.region_list.specs.Shrink.{in_one_range, difference, joined_at}
use Rattle.region_list.specs.Walk.{TilesFrom, BeginsIn}
use Rattle.region_list.proofs.JoinLemmas.{sizes_joined}
use Rattle.region_list.proofs.TilingLemmas.{tiling_size, tiling_weaker}
use Rattle.region_list.proofs.WalkLemmas.{Next, Step, step, prepend, tiling_joined}
use Rattle.region_list.proofs.ClosestLemmas.{at_begin, at_on, at_over, here_within}
use Rattle.region_list.proofs.ShrinkLemmas.{tiling_of_sizes}
use Rattle.region_list.proofs.SweepLemmas.{pair_at, joined_here}

-- adjacent rows of one range, joined
pub joined_tiling : (unit : ℕ) (gs : List Range) (front back : List Row) (a b : Row) → 1 ≤ unit → InOrder gs → Tiling unit gs (spans (front ++ a ∷ b ∷ back)) → in_one_range gs a b ≡ true → Tiling unit gs (spans (front ++ join a b ∷ back))
joined_tiling unit gs front back a b some ordered tiling one =
    let rows = front ++ a ∷ b ∷ back in
    let i = length front in
    let pages = tiling_joined gs rows i (difference a b) ordered (tiling_weaker 1 unit gs (spans rows) some tiling) (pair_at gs front a b back one) in
    let sizes : AllByRecursion (λ s. unit ≤ s.pages) (spans (joined_at i rows)) = sizes_joined unit i rows (tiling_size unit gs (spans rows) tiling) in
    subst (λ rs. Tiling unit gs (spans rs)) (joined_here front a b back) (tiling_of_sizes unit gs (spans (joined_at i rows)) pages sizes)

-- the first row, and the next one of its range, joined
pub begins_joined : (gs : List Range) (a b : Row) (rows : List Row) (k end : ℕ) → BeginsIn gs (a ∷ b ∷ rows) k end → (a.start + a.pages ≡ end → ⊥) → BeginsIn gs (join a b ∷ rows) k end
begins_joined gs a b rows k end here on =
    let s = step here.from here.range here.others a (b ∷ rows) here.rest in
    record { from = here.from; range = here.range; others = here.others; ranges = here.ranges; end_is = here.end_is; rest = by s s.next }
  where
    by : Step here.from here.range here.others a (b ∷ rows) → Next (here.from + a.pages) here.range here.others (spans (b ∷ rows)) → TilesFrom here.from (here.range ∷ here.others) (spans (join a b ∷ rows))
    by s (inl rest) =
        let u = step (here.from + a.pages) here.range here.others b rows rest in
        let sum : here.from + a.pages + b.pages ≡ here.from + (a.pages + b.pages) = omega arith in
        prepend here.from here.range here.others (join a b) (spans rows) s.target s.start (omega (arith, s.some)) s.low (subst (λ (n : ℕ). Next n here.range here.others (spans rows)) sum u.next)
    by s (inr over) = absurd (on (omega (arith, over.0, s.start, here.end_is)))

-- the first row has a page
pub begins_some : (gs : List Range) (a : Row) (rows : List Row) (k end : ℕ) → BeginsIn gs (a ∷ rows) k end → 1 ≤ a.pages
begins_some gs a rows k end here = (step here.from here.range here.others a rows here.rest).some

-- it ends below page 2^32
pub begins_fits : (gs : List Range) (a : Row) (rows : List Row) (k end : ℕ) → InOrder gs → BeginsIn gs (a ∷ rows) k end → a.start + a.pages < 2 ^ 32
begins_fits gs a rows k end ordered here =
    let s = step here.from here.range here.others a rows here.rest in
    omega (arith, s.high, s.start, end_at 0 0 gs k here.range ordered (here_within gs k here.range here.others here.ranges).1)

-- the next row lies in the same range, or begins the next one
pub begins_same : (gs : List Range) (a b : Row) (rows : List Row) (k end : ℕ) → InOrder gs → BeginsIn gs (a ∷ b ∷ rows) k end → (a.start + a.pages ≡ end → ⊥) → (in_one_range gs a b ≡ true) × BeginsIn gs (b ∷ rows) k end
begins_same gs a b rows k end ordered here on = let is = at_on gs (a ∷ b ∷ rows) k 0 end a b rows ordered refl here on in (is.1, is.0)

pub begins_next : (gs : List Range) (a b : Row) (rows : List Row) (k end : ℕ) → InOrder gs → BeginsIn gs (a ∷ b ∷ rows) k end → a.start + a.pages ≡ end → (in_one_range gs a b ≡ false) × (k + 1 < length gs) × ((next : ℕ) → option_map end_of (slice_get gs (k + 1)) ≡ Some next → BeginsIn gs (b ∷ rows) (k + 1) next)
begins_next gs a b rows k end ordered here over = let is = at_over gs (a ∷ b ∷ rows) k 0 end a b rows ordered refl here over in (is.2, is.0, is.1)

-- the first row of a tiling lies in the first range
pub begins_first : (gs : List Range) (a : Row) (rows : List Row) (end : ℕ) → InOrder gs → Tiling 1 gs (spans (a ∷ rows)) → option_map end_of (slice_get gs 0) ≡ Some end → BeginsIn gs (a ∷ rows) 0 end
begins_first gs a rows end ordered tiling is = at_begin gs (a ∷ rows) end ordered tiling (omega arith) is
