use Rattle.std.proofs.Common.{◌-◌, ◌≤◌, length, drop}
use Rattle.heat_report.proofs.Walking.{IsWalk}
use Rattle.heat_report.proofs.heat.add_rows.Given as goal

abbrev pub invariant-rows : goal.invariant-rows
invariant-rows g l = record {
  within : l.index ≤ length l.rows.rows;
  walk : IsWalk l.columns.first l.columns.pages g.row.N l.fn.out (drop l.from l.rows.rows) l.column l.out (drop l.index l.rows.rows);
}

abbrev pub decreases-rows : goal.decreases-rows
decreases-rows g l = length l.rows.rows - l.index
