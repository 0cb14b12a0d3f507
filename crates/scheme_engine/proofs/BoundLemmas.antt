-- How many rows and pages there are.
use Rattle.std.proofs.Common.{◌≡◌, ℕ, zero, suc, ◌+◌, ◌≤◌, Bool, List, [], ◌∷◌, Option, Some, None, length, length-append, get_or, refl, ap, arith}
use Rattle.std.specs.Prelude.{All, Any, IfSome, sum_by}
use Rattle.std.specs.List.{AllByRecursion, cons_option, range_with_len}
use Rattle.std.proofs.lemmas.List.{length-map}
use Rattle.std.proofs.lemmas.List.Elements.{All-from_recursion, All-head, All-tail, All-weaker}
use Rattle.std.proofs.lemmas.List.Sums.{count_by-le-length, length-filter, sum_by-append, sum_by-cons, sum_by-take-le}
use Rattle.damon_types.specs.declared.range.Range.{Range}
use Rattle.damon_types.specs.declared.row.Row.{Row}
use Rattle.damon_types.specs.declared.scheme.Scheme.{Scheme}
use Rattle.damon_types.specs.declared.space.Target.{Target}
use Rattle.damon_types.specs.Ranges.{InOrder, OrderedFrom, end_of, page_total}
use Rattle.damon_types.specs.Space.{pages_of}
use Rattle.damon_types.specs.Span.{Span, span_of, spans}
use Rattle.damon_types.specs.Within.{AreWithin, LiesInTarget}
use Rattle.region_list.specs.Tiles.{LiesIn}
use Rattle.region_list.specs.Tiling.{Chain, Tiling}
use Rattle.scheme_filter.specs.Passes.{passes}
use Rattle.priority.specs.declared.candidates.Candidate.{Candidate}
use Rattle.scheme_engine.specs.Candidates.{candidate_of, candidates_of, passing_pages}
use Rattle.scheme_engine.specs.declared.applied.AppliedRun.{AppliedRun}
use Rattle.scheme_engine.specs.Kept.{IsRunIn, LiesInRow}
use Rattle.scheme_engine.proofs.GatherLemmas.{IsOfRow, candidate_is}

-- the pages of rows that tile ranges are those of the ranges
chain_sum : (unit t from to : ℕ) (ss : List Span) → Chain unit t from to ss → from + sum_by (λ s. s.pages) ss ≡ to
chain_sum unit t from to [] chain = omega (arith, chain)
chain_sum unit t from to (s ∷ ss) chain = omega (arith, sum_by-cons (λ (u : Span). u.pages) s ss, chain_sum unit t (from + s.pages) to ss chain.3)

tiling_sum : (unit : ℕ) (gs : List Range) (ss : List Span) → Tiling unit gs ss → sum_by (λ s. s.pages) ss ≡ page_total gs
tiling_sum unit [] ss tiling = ap (sum_by (λ (s : Span). s.pages)) tiling
tiling_sum unit (g ∷ gs) ss tiling =
    omega (arith, ap (sum_by (λ (s : Span). s.pages)) tiling.2, sum_by-append (λ (s : Span). s.pages) tiling.0 tiling.1, chain_sum unit g.target g.first (end_of g) tiling.0 tiling.3, tiling_sum unit gs tiling.1 tiling.4, sum_by-cons (λ (h : Range). h.pages) g gs)

rows_sum : (rows : List Row) → sum_by (λ s. s.pages) (spans rows) ≡ sum_by (λ r. r.pages) rows
rows_sum [] = refl
rows_sum (r ∷ rows) = omega (arith, sum_by-cons (λ (s : Span). s.pages) (span_of r) (spans rows), sum_by-cons (λ (q : Row). q.pages) r rows, rows_sum rows)

-- ranges that end by a page have no more pages than there are before it
ranges_end : (t p n : ℕ) (gs : List Range) → p ≤ n → OrderedFrom t p gs → All (λ g. end_of g ≤ n) gs → p + page_total gs ≤ n
ranges_end t p n [] low order ends = omega arith
ranges_end t p n (g ∷ gs) low order ends =
    let here = All-head (λ (h : Range). end_of h ≤ n) g gs ends in
    omega (arith, order.1, sum_by-cons (λ (h : Range). h.pages) g gs, ranges_end g.target (end_of g) n gs here order.3 (All-tail (λ (h : Range). end_of h ≤ n) g gs ends))

pub range_end : (space : List Target) (g : Range) → LiesInTarget space g → end_of g ≤ pages_of space
range_end space g lies = omega (arith, lies.to, sum_by-take-le (λ (t : Target). t.pages) space (g.target + 1))

pub rows_within : (space : List Target) (unit : ℕ) (gs : List Range) (rows : List Row) → InOrder gs → Tiling unit gs (spans rows) → AreWithin space gs → sum_by (λ r. r.pages) rows ≤ pages_of space
rows_within space unit gs rows order tiling within =
    let ends = All-weaker (LiesInTarget space) (λ g. end_of g ≤ pages_of space) (range_end space) gs within in
    omega (arith, rows_sum rows, tiling_sum unit gs (spans rows) tiling, ranges_end 0 0 (pages_of space) gs (omega arith) order ends)

-- each row has a page
sizes : (unit t from to : ℕ) (ss : List Span) → 1 ≤ unit → Chain unit t from to ss → length ss ≤ sum_by (λ s. s.pages) ss
sizes unit t from to [] some chain = omega arith
sizes unit t from to (s ∷ ss) some chain = omega (arith, chain.2, sum_by-cons (λ (u : Span). u.pages) s ss, sizes unit t (from + s.pages) to ss some chain.3)

tiled_sizes : (unit : ℕ) (gs : List Range) (ss : List Span) → 1 ≤ unit → Tiling unit gs ss → length ss ≤ sum_by (λ s. s.pages) ss
tiled_sizes unit [] ss some tiling = omega (arith, ap length tiling)
tiled_sizes unit (g ∷ gs) ss some tiling =
    omega (arith, ap length tiling.2, ap (sum_by (λ (s : Span). s.pages)) tiling.2, length-append tiling.0 tiling.1, sum_by-append (λ (s : Span). s.pages) tiling.0 tiling.1, sizes unit g.target g.first (end_of g) tiling.0 some tiling.3, tiled_sizes unit gs tiling.1 some tiling.4)

pub rows_at_most : (unit : ℕ) (gs : List Range) (rows : List Row) → 1 ≤ unit → Tiling unit gs (spans rows) → length rows ≤ sum_by (λ r. r.pages) rows
rows_at_most unit gs rows some tiling = omega (arith, tiled_sizes unit gs (spans rows) some tiling, rows_sum rows, length-map rows span_of)

-- no candidate has more passing pages than its row has pages
range_length : (from n : ℕ) → length (range_with_len from n) ≡ n
range_length from zero = refl
range_length from (suc n) = omega (arith, range_length (from + 1) n)

passing_few : (passes : ℕ → Bool) (s : Span) → length (passing_pages passes s) ≤ s.pages
passing_few passes s = omega (arith, length-filter passes (range_with_len s.start s.pages), count_by-le-length passes (range_with_len s.start s.pages), range_length s.start s.pages)

pub passing_sum : (space : List Target) (ranges : List Range) (aggr : ℕ) (scheme : Scheme) (rows : List Row) → sum_by (λ c. c.passing) (candidates_of space ranges aggr scheme rows) ≤ sum_by (λ r. r.pages) rows
passing_sum space ranges aggr scheme [] = omega arith
passing_sum space ranges aggr scheme (r ∷ rows) = by (candidate_of space ranges aggr scheme r) (candidate_is space ranges aggr scheme r) (passing_sum space ranges aggr scheme rows)
  where
    rest : List Candidate
    rest = candidates_of space ranges aggr scheme rows

    by : (o : Option Candidate) → IfSome o (IsOfRow (passes scheme.filters space ranges) r) → sum_by (λ c. c.passing) rest ≤ sum_by (λ q. q.pages) rows → sum_by (λ c. c.passing) (cons_option o rest) ≤ sum_by (λ q. q.pages) (r ∷ rows)
    by None is few = omega (arith, few, sum_by-cons (λ (q : Row). q.pages) r rows)
    by (Some c) is few = omega (arith, few, sum_by-cons (λ (q : Row). q.pages) r rows, sum_by-cons (λ (d : Candidate). d.passing) c rest, is.passing, passing_few (passes scheme.filters space ranges) (span_of r))

-- shares are no more
pub share_sum : (cs : List Candidate) → All (λ c. c.share ≤ c.passing) cs → sum_by (λ c. c.share) cs ≤ sum_by (λ c. c.passing) cs
share_sum [] all = omega arith
share_sum (c ∷ cs) all =
    omega (arith, All-head (λ (d : Candidate). d.share ≤ d.passing) c cs all, sum_by-cons (λ (d : Candidate). d.share) c cs, sum_by-cons (λ (d : Candidate). d.passing) c cs, share_sum cs (All-tail (λ (d : Candidate). d.share ≤ d.passing) c cs all))

-- a run in a row in a range lies in the space
pub run_within : (space : List Target) (gs : List Range) (ss : List Span) (r : AppliedRun) → AreWithin space gs → AllByRecursion (λ s. Any (LiesIn s) gs) ss → Any (LiesInRow r) ss → IsRunIn space r
run_within space gs ss r within held any =
    let lies = All-from_recursion (λ s. Any (LiesIn s) gs) ss held any.0 any.1 any.2 in
    let target = within lies.0 lies.1 lies.2 in
    let end = range_end space (get_or gs lies.0 lies.1) target in
    (any.4.some, omega (arith, any.4.to, ap (λ (s : Span). s.start + s.pages) any.3, lies.4.to, end, ap (λ (g : Range). end_of g) lies.3))
