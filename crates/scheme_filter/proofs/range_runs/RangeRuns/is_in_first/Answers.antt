use Rattle.std.proofs.Common.{ap, arith}
use Rattle.std.proofs.lemmas.Bool.Decides.{nat_tests}
use Rattle.scheme_filter.specs.RangeRuns.{first_end, first_start}
use Rattle.scheme_filter.proofs.RangeLemmas.{bounds_hold}
use Rattle.scheme_filter.proofs.range_runs.RangeRuns.is_in_first.Goals as goal

pub returns-then-self-start : goal.returns-then-self-start
returns-then-self-start c within =
    let runs = ap (λ v. v.runs) c.self.view_is in
    bounds_hold c.args.self.now.runs c.args.start c.args.end c.requires
    (omega (arith, c.if-self-start.true, c.self.invariant.0, ap first_start runs))
    (grind (arith, nat_tests, within, c.self.invariant.1, ap first_end runs))
