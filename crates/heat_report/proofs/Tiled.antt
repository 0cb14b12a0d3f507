-- Rows that tile ranges of a space.
use Rattle.std.proofs.Common.{◌≡◌, ℕ, ◌+◌, ◌≤◌, ◌<◌, List, [], ◌∷◌, ◌++◌, length, sym, ap, ◌∙◌, subst, arith}
use Rattle.std.specs.List.{AllByRecursion}
use Rattle.std.proofs.lemmas.List.Elements.{All-head, All-tail}
use Rattle.damon_types.specs.declared.range.Range.{Range}
use Rattle.damon_types.specs.declared.row.Row.{Row}
use Rattle.damon_types.specs.declared.space.Target.{Target}
use Rattle.damon_types.specs.Ranges.{OrderedFrom, InOrder, end_of}
use Rattle.damon_types.specs.Space.{offset}
use Rattle.damon_types.specs.Span.{Span, span_of, spans}
use Rattle.damon_types.specs.Within.{AreWithin, LiesInTarget}
use Rattle.region_list.specs.Find.{AscendFrom}
use Rattle.region_list.specs.Tiling.{Chain, Tiling}
use Rattle.heat_report.specs.InSpace.{IsRowOf, LieIn}
use Rattle.heat_report.proofs.Walking.{ascend_weaker}

-- rows lie in the space, and ascend from a page
record LieFrom (ts : List Target) (page : ℕ) (rows : List Row) : Type 0 where
  each : AllByRecursion (IsRowOf ts) rows
  ascend : AscendFrom page rows

-- a chain does not end before it begins
chain_end : (unit t from to : ℕ) (ss : List Span) → Chain unit t from to ss → from ≤ to
chain_end unit t from to [] chain = omega (arith, chain)
chain_end unit t from to (s ∷ ss) chain = omega (arith, chain_end unit t (from + s.pages) to ss chain.3)

-- rows of a chain in a target, and those that lie in the space from its end
chain_lies : (ts : List Target) (unit t page from to : ℕ) (front back : List Span) (rows : List Row) → t < length ts → offset ts t ≤ from → to ≤ offset ts (t + 1) → page ≤ from → spans rows ≡ front ++ back → Chain unit t from to front → ((others : List Row) → spans others ≡ back → LieFrom ts to others) → LieFrom ts page rows
chain_lies ts unit t page from to [] back rows within low high before is chain rest =
    let others = rest rows is in
    record { each = others.each; ascend = ascend_weaker to page rows (omega (arith, before, chain)) others.ascend }
chain_lies ts unit t page from to (s ∷ front) back [] within low high before is chain rest = absurd (cc is)
chain_lies ts unit t page from to (s ∷ front) back (r ∷ rows) within low high before is chain rest =
    let here : span_of r ≡ s = cc is in
    let others : spans rows ≡ front ++ back = cc is in
    let target : r.target ≡ t = ap (λ (x : Span). x.target) here ∙ chain.0 in
    let start : r.start ≡ s.start = ap (λ (x : Span). x.start) here in
    let pages : r.pages ≡ s.pages = ap (λ (x : Span). x.pages) here in
    let end = chain_end unit t (from + s.pages) to front chain.3 in
    let first = ap (λ i. offset ts i) target in
    let last = ap (λ i. offset ts (i + 1)) target in
    let later = chain_lies ts unit t (r.start + r.pages) (from + s.pages) to front back rows within (omega (arith, low)) high (omega (arith, start, pages, chain.1)) others chain.3 rest in
    let row : IsRowOf ts r = record { target = omega (arith, target, within); from = omega (arith, first, low, start, chain.1); to = omega (arith, last, high, end, start, pages, chain.1) } in
    record { each = (row, later.each); ascend = (omega (arith, before, start, chain.1), later.ascend) }

tiling_lies : (ts : List Target) (unit t page : ℕ) (gs : List Range) (rows : List Row) → OrderedFrom t page gs → AreWithin ts gs → Tiling unit gs (spans rows) → LieFrom ts page rows
tiling_lies ts unit t page [] [] ordered within tiling = record { each = tt; ascend = tt }
tiling_lies ts unit t page [] (r ∷ rows) ordered within tiling = absurd (cc tiling)
tiling_lies ts unit t page (g ∷ gs) rows ordered within tiling =
    let here = All-head (LiesInTarget ts) g gs within in
    let others = All-tail (LiesInTarget ts) g gs within in
    chain_lies ts unit g.target page g.first (end_of g) tiling.0 tiling.1 rows here.target here.from here.to ordered.1 tiling.2 tiling.3 (λ os is. tiling_lies ts unit g.target (end_of g) gs os ordered.3 others (subst (λ ss. Tiling unit gs ss) (sym is) tiling.4))

pub tiled_rows_lie : (unit : ℕ) (ts : List Target) (gs : List Range) (rows : List Row) → InOrder gs → AreWithin ts gs → Tiling unit gs (spans rows) → LieIn ts rows
tiled_rows_lie unit ts gs rows ordered within tiling =
    let all = tiling_lies ts unit 0 0 gs rows ordered within tiling in
    record { each = all.each; ascend = all.ascend }
