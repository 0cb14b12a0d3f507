use Rattle.std.proofs.Common.{◌++◌, List, length, map, ap, sym, ◌∙◌, arith}
use Rattle.std.proofs.lemmas.List.{length_push}
use Rattle.scheme_filter.specs.declared.runs.Run.{Run}
use Rattle.scheme_filter.specs.Passes.{passes}
use Rattle.scheme_engine.specs.Applied.{AppliedList}
use Rattle.scheme_engine.specs.Taken.{applied_run}
use Rattle.scheme_engine.proofs.TakenLemmas.{whole_cut, whole_taken}
use Rattle.scheme_engine.proofs.pages.take_row.Goals as goal

pub returns-then-candidate-row : goal.returns-then-candidate-row
returns-then-candidate-row c =
    let p = passes c.args.served.now.scheme.now.filters c.args.served.now.space.now c.args.ranges.now.list in
    let r = c.args.row.now in
    let cand = c.args.candidate.now in
    let old = c.args.applied.now in
    let all = sym c.requires.passing ∙ c.if-candidate-row.true in
    let with : List Run → AppliedList = λ rs. record old { runs = old.runs ++ map (applied_run c.args.served.now.number cand) rs } in
    let are = whole_taken p r.pages r.start cand.share all c.requires.some (omega arith) in
    record {
      runs = c.push_run.ensures ∙ ap with (sym are);
      few = omega (arith, ap (λ (a : AppliedList). length a.runs) c.push_run.ensures, length_push old.runs (applied_run c.args.served.now.number cand (record { start = r.start; pages = cand.share })));
      pages = sym (whole_cut p r.pages r.start cand.share all c.requires.some (omega arith));
      most = omega arith;
    }
