use Rattle.std.proofs.Common.{◌≡◌, List}
use Rattle.damon_types.specs.declared.row.Row.{Row}
use Rattle.region_list.specs.Columns.{AreValues}
use Rattle.aggregator.proofs.RowLemmas.{ages_so_far}
use Rattle.aggregator.proofs.ages.Aging.age_values.Given as goal

abbrev pub invariant-loop-index : goal.invariant-loop-index
invariant-loop-index l = (rows : List Row) → AreValues rows l.counts l.lasts l.fn.ages → l.ages ≡ ages_so_far l.self.threshold l.self.version rows l.index
