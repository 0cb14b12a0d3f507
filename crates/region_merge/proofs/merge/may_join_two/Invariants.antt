use Rattle.std.proofs.Common.{◌≡◌, ◌-◌, ◌++◌, List, take, drop}
use Rattle.damon_types.specs.declared.range.Range.{Range}
use Rattle.region_merge.specs.Merged.{merged}
use Rattle.region_merge.proofs.merge.may_join_two.Given as goal

abbrev pub invariant-pairs : goal.invariant-pairs
invariant-pairs l = (gs : List Range) → merged gs l.threshold l.limit l.rows.rows ≡ take (l.next - 1) l.rows.rows ++ merged gs l.threshold l.limit (drop (l.next - 1) l.rows.rows)
