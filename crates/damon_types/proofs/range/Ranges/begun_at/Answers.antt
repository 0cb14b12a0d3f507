use Rattle.std.proofs.Common.{leb, leb-true, leb-false, rules, ap}
use Rattle.std.proofs.lemmas.List.Sorted.{IsPartitionPoint-from_clause, IsPartitionedBy-leb}
use Rattle.damon_types.specs.declared.range.Range.{Range}
use Rattle.damon_types.specs.Ranges.{RangeList}
use Rattle.damon_types.proofs.ClassLemmas.{firsts_rise}
use Rattle.damon_types.proofs.range.Ranges.begun_at.Goals as goal

pub returns-clause-parts : goal.returns-clause-parts
returns-clause-parts c =
    let ranges = c.self.inside.items.items in
    let parted = rw (← c.deref.ensures.value) at (IsPartitionedBy-leb (λ (g : Range). g.first) ranges c.args.page (firsts_rise ranges c.self.invariant.order)) in
    let point = IsPartitionPoint-from_clause (λ (g : Range). leb g.first c.args.page) _ _ c.partition_point.ensures.partitioned parted (λ a r q k. search rules) in
    let here = rw c.deref.ensures.value at point in
    rw (← ap (λ (r : RangeList). r.list) c.self.view_is)
    (λ k d low high. leb-true _ _ (here.0 k d low high), λ k d low high. leb-false _ _ (here.1 k d low high))
