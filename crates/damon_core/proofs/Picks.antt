-- The picks of a pass under way rise: each is a page of its own row, and the rows lie one after another.
use Rattle.std.proofs.Common.{◌≡◌, ℕ, ◌+◌, ◌≤◌, List, [], ◌∷◌, ◌++◌, length, sym, ◌∙◌, subst, arith}
use Rattle.std.proofs.lemmas.List.{length-map}
use Rattle.damon_types.specs.declared.range.Range.{Range}
use Rattle.damon_types.specs.Ranges.{OrderedFrom, end_of}
use Rattle.damon_types.specs.Span.{Span, span_of, spans}
use Rattle.region_list.specs.Tiling.{Chain, Tiling}
use Rattle.live_commit.specs.declared.phase.Phase.{Phase}
use Rattle.live_commit.specs.declared.phase.Phase.TheVariants.{Idle, Clearing, Armed, Checking, Void, Due}
use Rattle.damon_core.specs.Pass.{IsInPass, PagesRiseFrom}
use Rattle.damon_core.specs.State.{State, row_count}
use Rattle.damon_core.proofs.Passes.{HasPasses, OneInEach, PicksLie, length-from_OneInEach}

-- rows that lie one after another
abbrev pub LieApart : ℕ → List Span → Type 0
LieApart from [] = Unit {0}
LieApart from (s ∷ ss) = (from ≤ s.start) × LieApart (s.start + s.pages) ss

LieApart-later : (low from : ℕ) (ss : List Span) → low ≤ from → LieApart from ss → LieApart low ss
LieApart-later low from [] h apart = tt
LieApart-later low from (s ∷ ss) h apart = (omega (arith, apart.0), apart.1)

LieApart-chain : (unit t from to : ℕ) (front back : List Span) → Chain unit t from to front → LieApart to back → LieApart from (front ++ back)
LieApart-chain unit t from to [] back chain apart = subst (λ n. LieApart n back) (sym chain) apart
LieApart-chain unit t from to (s ∷ ss) back chain apart = (omega (arith, chain.1), LieApart-later (s.start + s.pages) (from + s.pages) (ss ++ back) (omega (arith, chain.1)) (LieApart-chain unit t (from + s.pages) to ss back chain.3 apart))

LieApart-tiling : (unit t page : ℕ) (gs : List Range) (ss : List Span) → OrderedFrom t page gs → Tiling unit gs ss → LieApart page ss
LieApart-tiling unit t page [] ss order tiling = subst (LieApart page) (sym tiling) tt
LieApart-tiling unit t page (g ∷ gs) ss order tiling =
    subst (LieApart page) (sym tiling.2) (LieApart-later page g.first (tiling.0 ++ tiling.1) order.1 (LieApart-chain unit g.target g.first (end_of g) tiling.0 tiling.1 tiling.3 (LieApart-tiling unit g.target (end_of g) gs tiling.1 order.3 tiling.4)))

PagesRise-later : (low from : ℕ) (ps : List ℕ) → low ≤ from → PagesRiseFrom from ps → PagesRiseFrom low ps
PagesRise-later low from [] h rise = tt
PagesRise-later low from (p ∷ ps) h rise = (omega (arith, rise.0), rise.1)

rise_in_rows : (from : ℕ) (ps : List ℕ) (ss : List Span) → LieApart from ss → OneInEach ps ss → PagesRiseFrom from ps
rise_in_rows from [] ss apart one = tt
rise_in_rows from (p ∷ ps) [] apart one = absurd one
rise_in_rows from (p ∷ ps) (s ∷ ss) apart one = (omega (arith, apart.0, one.0.0), PagesRise-later (p + 1) (s.start + s.pages) ps (omega (arith, one.0.1)) (rise_in_rows (s.start + s.pages) ps ss apart.1 one.1))

lie_in_pass : (ph : Phase) (ps : List ℕ) (ss : List Span) → IsInPass ph → PicksLie ph ps ss → OneInEach ps ss
lie_in_pass (Clearing k) ps ss under lie = lie
lie_in_pass Armed ps ss under lie = lie
lie_in_pass (Checking k) ps ss under lie = lie
lie_in_pass Idle ps ss under lie = absurd under
lie_in_pass Void ps ss under lie = absurd under
lie_in_pass Due ps ss under lie = absurd under

pub picks_rise : (s : State) → HasPasses s → IsInPass s.core.phase → (length s.core.picks ≡ row_count s.core) × PagesRiseFrom 0 s.core.picks
picks_rise s h under =
    let ss = spans s.core.regions.rows in
    let one = lie_in_pass s.core.phase s.core.picks ss under h.picks in
    (length-from_OneInEach s.core.picks ss one ∙ length-map s.core.regions.rows span_of, rise_in_rows 0 s.core.picks ss (LieApart-tiling s.core.regions.unit 0 0 s.core.regions.ranges ss h.rows.order h.rows.tiling) one)
