use Rattle.std.proofs.Common.{◌≡◌, ◌≤◌, ◌<◌, ◌+◌, ◌-◌, leb, rules, arith, ap}
use Rattle.std.proofs.lemmas.List.Sorted.{IsPartitionPoint-from_clause, IsPartitionedBy-leb}
use Rattle.damon_types.specs.Space.{offset, pages_of}
use Rattle.damon_types.proofs.PlaceLemmas.{offsets_rise, target_found}
use Rattle.damon_types.proofs.space.Space.target_of.Goals as goal
use Rattle.damon_types.proofs.space.Space.target_of.Goals.{After-partition_point}

found : (c : After-partition_point) → (1 ≤ c.partition_point.result) × (offset c.args.self.now (c.partition_point.result - 1) ≤ c.args.page) × (c.args.page < offset c.args.self.now c.partition_point.result)
found c =
    let ts = c.self.inside.targets.items in
    let offsets = c.self.inside.offsets.items in
    let parted = rw (← c.deref.ensures.value) at (IsPartitionedBy-leb (λ p. p) offsets c.args.page (offsets_rise ts offsets c.self.inside.pages c.self.invariant)) in
    let point = IsPartitionPoint-from_clause (λ p. leb p c.args.page) _ _ c.partition_point.ensures.partitioned parted (λ a r q k. search rules) in
    rw (← c.self.view_is)
    (target_found ts offsets c.self.inside.pages c.args.page c.partition_point.result c.self.invariant (omega (arith, c.requires, ap pages_of c.self.view_is)) (omega (arith, c.partition_point.ensures.bound, c.deref.ensures.len)) (rw c.deref.ensures.value at point))

pub overflow_sub-result : goal.overflow_sub-result
overflow_sub-result c = (found c).0

pub returns-clause-from : goal.returns-clause-from
returns-clause-from c = (found c).1

pub returns-clause-to : goal.returns-clause-to
returns-clause-to c =
    let k = c.partition_point.result in
    let same : k - 1 + 1 ≡ k = omega (arith, (found c).0) in
    rw same (found c).2
