use Rattle.std.proofs.Common.{◌≡◌, ◌≤◌, ◌++◌, ◌-◌, drop, length}
use Rattle.std.specs.List.{flat_map}
use Rattle.line_text.specs.Appended.{KeepsFront}
use Rattle.snapshot_print.proofs.row_groups.print_rows_from.Given as goal

abbrev pub invariant-groups : goal.invariant-groups
invariant-groups g l = record {
  within : l.next ≤ length l.rows.rows;
  text : l.out.items ++ flat_map (g.L.LineOf.line l.line_of) (drop l.next l.rows.rows) ≡ l.fn.out.items ++ flat_map (g.L.LineOf.line l.line_of) (drop l.from l.rows.rows);
  kept : KeepsFront l.fn.out.items l.out.items;
}

abbrev pub decreases-groups : goal.decreases-groups
decreases-groups g l = length l.rows.rows - l.next
