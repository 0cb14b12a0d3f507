use Rattle.std.proofs.Common.{◌≡◌, ◌≤◌, ◌*◌, ◌+◌, ◌-◌, drop, take, length}
use Rattle.std.specs.List.{flat_map}
use Rattle.snapshot_print.specs.declared.widths.TheConstants.{LINE}
use Rattle.snapshot_print.proofs.row_groups.rows_before.Given as goal

abbrev pub invariant-rows : goal.invariant-rows
invariant-rows g l = record {
  from : l.indexes.start ≤ l.index;
  to : l.index ≤ l.indexes.end;
  room : length l.lines ≤ l.start + LINE * (l.indexes.end - l.index);
  start : l.start ≤ length l.lines;
  text : drop l.start l.lines ≡ flat_map (g.L.LineOf.line l.line_of) (take (l.indexes.end - l.index) (drop l.index l.rows.rows));
}

abbrev pub decreases-rows : goal.decreases-rows
decreases-rows g l = l.index
