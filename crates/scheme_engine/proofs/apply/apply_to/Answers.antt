use Rattle.std.proofs.Common.{ℕ, ◌<◌, Bool, ◌++◌, List, map, sym, ap, subst, ◌∙◌, arith}
use Rattle.std.specs.Prelude.{Any}
use Rattle.std.proofs.lemmas.List.{append-nil}
use Rattle.damon_types.specs.declared.range.Range.{Range}
use Rattle.damon_types.specs.declared.row.Row.{Row}
use Rattle.damon_types.specs.Span.{Span, span_of, spans}
use Rattle.region_list.specs.Regions.{RegionList}
use Rattle.region_list.specs.Tiles.{LiesIn}
use Rattle.scheme_filter.specs.Passes.{passes}
use Rattle.scheme_engine.specs.declared.applied.AppliedRun.{AppliedRun}
use Rattle.scheme_engine.specs.Applied.{AppliedList}
use Rattle.scheme_engine.specs.Outcome.{taken_until}
use Rattle.scheme_engine.specs.Taken.{applied_run, taken_runs}
use Rattle.scheme_engine.proofs.ApplyLemmas.{found, is_found, no_part_0, no_share, none_new, not_whole, part_is, spans_stay}
use Rattle.scheme_engine.proofs.PlaceLemmas.{row_held, rows_ascend}
use Rattle.scheme_engine.proofs.apply.apply_to.Goals as goal

pub returns-then-candidate-eq0-clause-runs : goal.returns-then-candidate-eq0-clause-runs
returns-then-candidate-eq0-clause-runs c =
    let old = c.args.applied.now in
    let p = passes c.args.served.now.scheme.now.filters c.args.served.now.space.now c.args.regions.now.ranges in
    let none = no_share c.args.served.now.number p (spans c.args.regions.now.rows) c.args.candidate.now c.if-candidate-eq0.true in
    let with : List AppliedRun → AppliedList = λ rs. record old { runs = rs } in
    ap with (sym (ap (λ rs. old.runs ++ rs) none ∙ append-nil old.runs))

pub returns-then-candidate-eq0-clause-rows : goal.returns-then-candidate-eq0-clause-rows
returns-then-candidate-eq0-clause-rows c =
    let old = c.args.regions.now in
    let cand = c.args.candidate.now in
    let with : List Row → RegionList = λ rs. record old { rows = rs } in
    let less : cand.share < cand.passing = omega (arith, c.if-candidate-eq0.true, c.requires.row.some) in
    ap with (sym (none_new c.args.served.now.scheme.now.action old.rows cand (λ r. not_whole c.args.served.now.scheme.now.action cand r less)))

pub returns-then-candidate-eq0-clause-part : goal.returns-then-candidate-eq0-clause-part
returns-then-candidate-eq0-clause-part c =
    let p = passes c.args.served.now.scheme.now.filters c.args.served.now.space.now c.args.regions.now.ranges in
    sym (no_part_0 c.args.served.now.scheme.now.action p (spans c.args.regions.now.rows) c.args.candidate.now c.if-candidate-eq0.true)

pub returns-in_err-index : goal.returns-in_err-index
returns-in_err-index c =
    let old = c.args.regions.now in
    let p = passes c.args.served.now.scheme.now.filters c.args.served.now.space.now old.ranges in
    let ascend = rows_ascend old.unit old.ranges (spans old.rows) c.len-count.ensures.unit c.len-count.ensures.order c.len-count.ensures.tiling in
    absurd (is_found p old.rows c.args.candidate.now ascend c.requires.row (sym c.find_near.ensures ∙ c.in_err-index.was))

pub take_row-pages-requires-clause-held : goal.take_row-pages-requires-clause-held
take_row-pages-requires-clause-held c =
    let old = c.args.regions.now in
    let p = passes c.args.served.now.scheme.now.filters c.args.served.now.space.now old.ranges in
    let ascend = rows_ascend old.unit old.ranges (spans old.rows) c.len-count.ensures.unit c.len-count.ensures.order c.len-count.ensures.tiling in
    let is = found p old.rows c.args.candidate.now c.in_ok-index.index c.row-row.result ascend c.requires.row (sym c.find_near.ensures ∙ c.in_ok-index.was) c.row-row.ensures.row in
    rw c.ranges-2.ensures.list (subst (λ (r : Row). Any (LiesIn (span_of r)) old.ranges) is.read (row_held old.ranges old.rows c.in_ok-index.index c.len-count.ensures.tiles.within is.within))

pub take_row-pages-requires-clause-passing : goal.take_row-pages-requires-clause-passing
take_row-pages-requires-clause-passing c =
    let old = c.args.regions.now in
    let p = passes c.args.served.now.scheme.now.filters c.args.served.now.space.now old.ranges in
    let ascend = rows_ascend old.unit old.ranges (spans old.rows) c.len-count.ensures.unit c.len-count.ensures.order c.len-count.ensures.tiling in
    let is = found p old.rows c.args.candidate.now c.in_ok-index.index c.row-row.result ascend c.requires.row (sym c.find_near.ensures ∙ c.in_ok-index.was) c.row-row.ensures.row in
    rw c.ranges-2.ensures.list is.passing

pub renew-requires : goal.renew-requires
renew-requires c =
    let old = c.args.regions.now in
    let p = passes c.args.served.now.scheme.now.filters c.args.served.now.space.now old.ranges in
    let ascend = rows_ascend old.unit old.ranges (spans old.rows) c.len-count.ensures.unit c.len-count.ensures.order c.len-count.ensures.tiling in
    let is = found p old.rows c.args.candidate.now c.in_ok-index.index c.row-row.result ascend c.requires.row (sym c.find_near.ensures ∙ c.in_ok-index.was) c.row-row.ensures.row in
    record { within = is.within; start = is.start ∙ ap (λ (r : Row). r.start) (sym is.read); share = c.requires.row.share }

pub returns : goal.returns
returns c =
    let old = c.args.regions.now in
    let before = c.args.applied.now in
    let cand = c.args.candidate.now in
    let row = c.row-row.result in
    let test : List Range → ℕ → Bool = λ gs. passes c.args.served.now.scheme.now.filters c.args.served.now.space.now gs in
    let ascend = rows_ascend old.unit old.ranges (spans old.rows) c.len-count.ensures.unit c.len-count.ensures.order c.len-count.ensures.tiling in
    let is = found (test old.ranges) old.rows cand c.in_ok-index.index row ascend c.requires.row (sym c.find_near.ensures ∙ c.in_ok-index.was) c.row-row.ensures.row in
    let with : (ℕ → Bool) → Span → AppliedList = λ p s. record before { runs = before.runs ++ map (applied_run c.args.served.now.number cand) (taken_runs p cand.share s) } in
    let pages = c.take_row-pages.ensures.pages ∙ ap (λ gs. taken_until (test gs) cand.share (span_of row)) c.ranges-2.ensures.list in
    record {
      runs = c.take_row-pages.ensures.runs ∙ ap (λ gs. with (test gs) (span_of row)) c.ranges-2.ensures.list ∙ ap (with (test old.ranges)) (sym is.span);
      few = c.take_row-pages.ensures.few;
      rows = c.renew.ensures.rows;
      spans = ap (λ (r : RegionList). spans r.rows) c.renew.ensures.rows ∙ spans_stay c.args.served.now.scheme.now.action old.rows cand;
      part = c.renew.ensures.part ∙ part_is c.args.served.now.scheme.now.action (test old.ranges) old.rows cand c.in_ok-index.index c.take_row-pages.result row is (omega (arith, c.if-candidate-eq0.false)) pages;
    }
