-- Rows of a tiling: their sizes, where they lie in the space, how many there are, and their counts.
use Rattle.std.proofs.Common.{◌≡◌, ℕ, zero, suc, ◌+◌, ◌/◌, ◌≤◌, ◌<◌, Bool, true, false, cond, List, [], ◌∷◌, ◌++◌, length, refl, ap, subst, arith}
use Rattle.std.specs.Prelude.{Any}
use Rattle.std.specs.List.{AllByRecursion, flat_map}
use Rattle.std.proofs.lemmas.List.Elements.{All-get_or}
use Rattle.std.proofs.lemmas.List.Sums.{sum_by-take-le}
use Rattle.damon_types.specs.declared.space.Target.{Target}
use Rattle.damon_types.specs.declared.range.Range.{Range}
use Rattle.damon_types.specs.declared.row.Row.{Row}
use Rattle.damon_types.specs.Ranges.{end_of, page_total}
use Rattle.damon_types.specs.Span.{Span, span_of, spans}
use Rattle.damon_types.specs.Space.{pages_of}
use Rattle.damon_types.specs.Within.{LiesInTarget, AreWithin}
use Rattle.damon_types.proofs.Lemmas.{all_append}
use Rattle.region_list.specs.Tiles.{Tiles, LiesIn}
use Rattle.region_list.specs.Tiling.{Chain, Tiling}
use Rattle.region_list.specs.Division.{divided, range_rows, rows_from, range_row_count}
use Rattle.sampler.specs.Counted.{raised}
use Rattle.sampler.specs.Pick.{picks_of}

chain_of_pages : (unit t from to : ℕ) (ss : List Span) → 1 ≤ unit → Chain unit t from to ss → Chain 1 t from to ss
chain_of_pages unit t from to [] some chain = chain
chain_of_pages unit t from to (s ∷ ss) some chain = (chain.0, chain.1, omega (arith, chain.2), chain_of_pages unit t (from + s.pages) to ss some chain.3)

-- rows that tile with at least `unit` pages each tile with at least one
pub tiling_of_pages : (unit : ℕ) (gs : List Range) (ss : List Span) → 1 ≤ unit → Tiling unit gs ss → Tiling 1 gs ss
tiling_of_pages unit [] ss some tiling = tiling
tiling_of_pages unit (g ∷ gs) ss some tiling =
    (tiling.0, tiling.1, tiling.2, chain_of_pages unit g.target g.first (end_of g) tiling.0 some tiling.3, tiling_of_pages unit gs tiling.1 some tiling.4)

-- the pages of a range are pages of the space
range_end : (ts : List Target) (g : Range) → LiesInTarget ts g → end_of g ≤ pages_of ts
range_end ts g lies = omega (arith, lies.to, sum_by-take-le (λ (t : Target). t.pages) ts (g.target + 1))

-- a row that lies in one of the ranges ends in the space
row_end : (ts : List Target) (gs : List Range) (s : Span) → AreWithin ts gs → Any (LiesIn s) gs → s.start + s.pages ≤ pages_of ts
row_end ts gs s within any =
    let g = any.1 in
    let at = All-get_or (LiesInTarget ts) gs any.0 g any.2 within in
    let lies : LiesInTarget ts g = subst (LiesInTarget ts) any.3 at in
    omega (arith, any.4.to, range_end ts g lies)

all_rows_in : (ts : List Target) (gs : List Range) (unit : ℕ) (rows : List Row) → 1 ≤ unit → AreWithin ts gs → AllByRecursion (λ s. Any (LiesIn s) gs) (spans rows) → AllByRecursion (λ s. unit ≤ s.pages) (spans rows) → AllByRecursion (λ r. (1 ≤ r.pages) × (r.start + r.pages ≤ pages_of ts)) rows
all_rows_in ts gs unit [] some within lie size = tt
all_rows_in ts gs unit (r ∷ rows) some within lie size = ((omega (arith, size.0), row_end ts gs (span_of r) within lie.0), all_rows_in ts gs unit rows some within lie.1 size.1)

-- each row has a page, and its pages are pages of the space
pub rows_in : (ts : List Target) (gs : List Range) (unit : ℕ) (rows : List Row) → 1 ≤ unit → AreWithin ts gs → Tiles gs (spans rows) unit → AllByRecursion (λ r. (1 ≤ r.pages) × (r.start + r.pages ≤ pages_of ts)) rows
rows_in ts gs unit rows some within tiles = all_rows_in ts gs unit rows some within tiles.within tiles.size

-- each pick is a page of the space
pub picks_in : (n : ℕ) (rows : List Row) (ws : List ℕ) → AllByRecursion (λ r. (1 ≤ r.pages) × (r.start + r.pages ≤ n)) rows → AllByRecursion (λ p. p < n) (picks_of rows ws)
picks_in n [] ws all = tt
picks_in n (r ∷ rows) [] all = tt
picks_in n (r ∷ rows) (w ∷ ws) all = (omega arith, picks_in n rows ws all.1)

-- as many picks as rows
pub length-picks_of : (rows : List Row) (ws : List ℕ) → length ws ≡ length rows → length (picks_of rows ws) ≡ length rows
length-picks_of [] ws same = refl
length-picks_of (r ∷ rows) [] same = absurd (omega arith)
length-picks_of (r ∷ rows) (w ∷ ws) same = ap suc (length-picks_of rows ws (omega arith))

counts-rows_from : (t size end n at : ℕ) → AllByRecursion (λ r. r.count ≤ 0) (rows_from t size end n at)
counts-rows_from t size end zero at = tt
counts-rows_from t size end (suc zero) at = (omega arith, tt)
counts-rows_from t size end (suc (suc n)) at = (omega arith, counts-rows_from t size end (suc n) (at + size))

counts-range_rows : (unit least total : ℕ) (gs : List Range) → AllByRecursion (λ r. r.count ≤ 0) (flat_map (range_rows unit least total) gs)
counts-range_rows unit least total [] = tt
counts-range_rows unit least total (g ∷ gs) =
    let k = range_row_count unit least total g in
    all_append (λ r. r.count ≤ 0) (range_rows unit least total g) (flat_map (range_rows unit least total) gs) (counts-rows_from g.target (g.pages / k) (end_of g) k g.first) (counts-range_rows unit least total gs)

-- a division counts nothing
pub counts-divided : (unit least : ℕ) (gs : List Range) → AllByRecursion (λ r. r.count ≤ 0) (divided unit least gs)
counts-divided unit least gs = counts-range_rows unit least (page_total gs) gs

pub length-raised : (bits : List Bool) (rows : List Row) → length (raised bits rows) ≡ length rows
length-raised [] rows = refl
length-raised (b ∷ bits) [] = refl
length-raised (b ∷ bits) (r ∷ rows) = ap suc (length-raised bits rows)

pub one_more : (b : Bool) (n since : ℕ) → n ≤ since → n + cond b 1 0 ≤ since + 1
one_more true n since few = omega arith
one_more false n since few = omega arith

-- a bound of counts is one with each greater number
pub weaker : (few most : ℕ) → few ≤ most → (rows : List Row) → AllByRecursion (λ r. r.count ≤ few) rows → AllByRecursion (λ r. r.count ≤ most) rows
weaker few most le [] all = tt
weaker few most le (r ∷ rows) all = (omega (arith, all.0), weaker few most le rows all.1)

-- a pass raises a count by one at most
pub counts-raised : (since : ℕ) (bits : List Bool) (rows : List Row) → AllByRecursion (λ r. r.count ≤ since) rows → AllByRecursion (λ r. r.count ≤ since + 1) (raised bits rows)
counts-raised since [] rows all = weaker since (since + 1) (omega arith) rows all
counts-raised since (b ∷ bits) [] all = tt
counts-raised since (b ∷ bits) (r ∷ rows) all = (one_more b r.count since all.0, counts-raised since bits rows all.1)
