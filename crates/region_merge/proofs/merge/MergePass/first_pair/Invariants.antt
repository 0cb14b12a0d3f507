use Rattle.std.proofs.Common.{◌≡◌, ◌-◌, ◌≤◌, ◌<◌, ◌++◌, length, take, drop}
use Rattle.region_list.specs.Walk.{BeginsIn}
use Rattle.region_merge.specs.Merged.{merged}
use Rattle.region_merge.proofs.merge.MergePass.first_pair.Given as goal

abbrev pub invariant-pairs : goal.invariant-pairs
invariant-pairs l = record {
  within : l.at.index < length l.rows.rows;
  later : l.fn.from.index ≤ l.at.index;
  here : BeginsIn l.ranges.list (drop l.at.index l.rows.rows) l.at.range l.at.end;
  stay : take l.at.index l.rows.rows ++ merged l.ranges.list l.self.threshold l.self.limit (drop l.at.index l.rows.rows) ≡ take l.fn.from.index l.rows.rows ++ merged l.ranges.list l.self.threshold l.self.limit (drop l.fn.from.index l.rows.rows);
}

abbrev pub decreases-pairs : goal.decreases-pairs
decreases-pairs l = length l.rows.rows - l.at.index
