use Rattle.std.proofs.Common.{◌≤◌, length, sym, ap, arith}
use Rattle.region_split.specs.Split.{wants_three}
use Rattle.region_split.proofs.SplitLemmas.{rest_stays}
use Rattle.region_split.proofs.split.split_all.Goals as goal

pub returns-then-count-max : goal.returns-then-count-max
returns-then-count-max c =
    let regions = c.args.regions.now in
    let count = length regions.rows in
    let full : regions.max ≤ count = omega (arith, c.if-count-max.true, c.len-count.ensures.len, c.max-max.ensures) in
    ap (λ rs. record regions { rows = rs }) (sym (rest_stays (record { max = regions.max; unit = regions.unit }) (wants_three regions.max c.args.before count) c.args.words.now count 0 regions.rows full))
