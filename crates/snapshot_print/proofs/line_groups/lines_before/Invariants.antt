use Rattle.std.proofs.Common.{◌≡◌, ◌≤◌, ◌*◌, ◌+◌, ◌-◌, drop, length}
use Rattle.std.specs.List.{flat_map}
use Rattle.snapshot_print.specs.declared.widths.TheConstants.{LINE}
use Rattle.snapshot_print.proofs.line_groups.lines_before.Given as goal

abbrev pub invariant-items : goal.invariant-items
invariant-items g l = record {
  index : l.index ≤ length l.items;
  room : length l.lines ≤ l.start + LINE * (length l.items - l.index);
  start : l.start ≤ length l.lines;
  text : drop l.start l.lines ≡ flat_map (g.L.LineOf.line l.line_of) (drop l.index l.items);
}

abbrev pub decreases-items : goal.decreases-items
decreases-items g l = l.index
