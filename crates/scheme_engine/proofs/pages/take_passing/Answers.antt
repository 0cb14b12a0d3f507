use Rattle.std.proofs.Common.{◌≡◌, ◌-◌, ◌++◌, List, length, map, ap, sym, ◌∙◌, arith}
use Rattle.std.proofs.lemmas.List.{length-append, length-map}
use Rattle.damon_types.specs.Span.{span_of}
use Rattle.scheme_filter.specs.declared.runs.Run.{Run}
use Rattle.scheme_filter.specs.Passes.{passes}
use Rattle.scheme_engine.specs.declared.applied.AppliedRun.{AppliedRun}
use Rattle.scheme_engine.specs.Applied.{AppliedList}
use Rattle.scheme_engine.specs.Applying.{first_pages, end_of_runs}
use Rattle.scheme_engine.specs.Taken.{applied_run, taken_runs}
use Rattle.scheme_engine.proofs.ApplyLemmas.{cut_within, end_is}
use Rattle.scheme_engine.proofs.TakenLemmas.{length-first_pages, taken_are_first}
use Rattle.scheme_engine.proofs.pages.take_passing.Goals as goal

pub take_pages-end-requires-clause-ends : goal.take_pages-end-requires-clause-ends
take_pages-end-requires-clause-ends c = rw c.as_slice.ensures.items c.passing.ensures.ends

pub overflow_sub-result : goal.overflow_sub-result
overflow_sub-result c =
    let p = passes c.args.served.now.scheme.now.filters c.args.served.now.space.now c.args.ranges.now.list in
    let r = c.args.row.now in
    let cand = c.args.candidate.now in
    let runs = c.as_slice.ensures.items ∙ c.passing.ensures.exact in
    let end = c.take_pages-end.ensures.end ∙ ap (λ rs. end_of_runs (first_pages cand.share rs)) runs ∙ end_is p cand r in
    let within = cut_within p cand.share (span_of r) c.requires.some c.requires.share in
    omega (arith, end, within.0)

pub returns : goal.returns
returns c =
    let p = passes c.args.served.now.scheme.now.filters c.args.served.now.space.now c.args.ranges.now.list in
    let r = c.args.row.now in
    let cand = c.args.candidate.now in
    let old = c.args.applied.now in
    let now = c.take_pages-end.ensures.runs in
    let runs = c.as_slice.ensures.items ∙ c.passing.ensures.exact in
    let are : first_pages cand.share c.as_slice.result.now ≡ taken_runs p cand.share (span_of r) = ap (first_pages cand.share) runs ∙ sym (taken_are_first p cand.share r.start r.pages) in
    let end = c.take_pages-end.ensures.end ∙ ap (λ rs. end_of_runs (first_pages cand.share rs)) runs ∙ end_is p cand r in
    let within = cut_within p cand.share (span_of r) c.requires.some c.requires.share in
    let with : List Run → AppliedList = λ rs. record old { runs = old.runs ++ map (applied_run c.args.served.now.number cand) rs } in
    let pushed : List AppliedRun = map (applied_run c.args.served.now.number cand) (first_pages cand.share c.as_slice.result.now) in
    let few = length-first_pages cand.share c.as_slice.result.now in
    record {
      runs = now ∙ ap with are;
      few = omega (arith, ap (λ (a : AppliedList). length a.runs) now, length-append old.runs pushed, length-map (first_pages cand.share c.as_slice.result.now) (applied_run c.args.served.now.number cand), few, c.as_slice.ensures.most);
      pages = ap (λ n. n - r.start) end;
      most = omega (arith, end, within.1);
    }
