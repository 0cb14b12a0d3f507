use Rattle.std.proofs.Common.{◌≡◌, subst}
use Rattle.region_merge.specs.Grouping.{IsMerged}
use Rattle.region_merge.specs.Merged.{merged}
use Rattle.region_merge.proofs.GroupingLemmas.{merged_groups}
use Rattle.region_merge.proofs.merge.merge_all.Goals as goal

pub returns-else-may_join_two-clause-grouping : goal.returns-else-may_join_two-clause-grouping
returns-else-may_join_two-clause-grouping c =
    let old = c.args.regions.now in
    let stay = subst (λ rs. merged old.ranges c.args.threshold c.args.limit rs ≡ rs) c.rows.ensures.rows (c.may_join_two.ensures c.if-may_join_two.false old.ranges) in
    subst (λ rs. IsMerged old.ranges c.args.threshold c.args.limit old.rows rs) stay (merged_groups old.ranges c.args.threshold c.args.limit old.rows)
