use Rattle.std.proofs.Common.{◌≡◌, ◌≤◌, None, take, drop}
use Rattle.std.specs.List.{last_or}
use Rattle.target_ranges.specs.Checked.{checked_from, checked_ranges}
use Rattle.target_ranges.proofs.check.check_ranges.Given as goal

abbrev pub invariant-loop-index : goal.invariant-loop-index
invariant-loop-index l = record {
  so_far : checked_ranges l.space l.unit l.cap l.specs ≡ checked_from l.space l.unit l.cap l.index (last_or None (take l.index l.specs)) (drop l.index l.specs);
  few : l.index ≤ l.cap;
}
