use Rattle.std.proofs.Common.{◌≤◌, ◌<◌, ◌^◌, sym, subst, arith}
use Rattle.std.specs.Prelude.{All}
use Rattle.damon_types.specs.Ranges.{end_of}
use Rattle.scheme_filter.specs.Runs.{run_end}
use Rattle.scheme_filter.proofs.LongestLemmas.{all_weaker}
use Rattle.scheme_filter.proofs.range_runs.look_up.Goals as goal

pub passing_in-requires-clause-one : goal.passing_in-requires-clause-one
passing_in-requires-clause-one c = (c.range_of-index.result.index, c.range_of-index.ensures.one)

pub first_of-near-inside-requires : goal.first_of-near-inside-requires
first_of-near-inside-requires c =
    let range = c.range_of-index.result.range in
    subst (All (λ r. run_end r < 2 ^ 32)) (sym c.as_slice.ensures.items)
    (all_weaker (λ r. (range.first ≤ r.start) × (run_end r ≤ end_of range)) (λ r. run_end r < 2 ^ 32) c.passing_in.new.runs (λ r is. omega (arith, is.1, c.range_of-index.ensures.small)) c.passing_in.ensures.within)
