use Rattle.std.proofs.Common.{◌≡◌, ◌-◌, ◌∷◌, ◌++◌, length, drop}
use Rattle.region_list.specs.Walk.{BeginsIn}
use Rattle.region_merge.specs.Merged.{merged_from, merged}
use Rattle.region_merge.proofs.merge.MergePassRowPass.run.Given as goal

abbrev pub invariant-groups : goal.invariant-groups
invariant-groups l = record {
  here : BeginsIn l.ranges.list (l.group.row ∷ drop l.index l.rows.rows) l.group.range l.group.end;
  so_far : l.made.rows ++ merged_from l.ranges.list l.self.threshold l.self.limit l.group.row (drop l.index l.rows.rows) ≡ merged l.ranges.list l.self.threshold l.self.limit l.rows.rows;
  cap : l.made.cap ≡ l.fn.made.cap;
}

abbrev pub decreases-groups : goal.decreases-groups
decreases-groups l = length l.rows.rows - l.index
