use Rattle.std.proofs.Common.{◌+◌, ◌-◌, ◌≤◌, ◌<◌}
use Rattle.heat_report.specs.Heat.{border}
use Rattle.heat_report.proofs.Adding.{IsAdded}
use Rattle.heat_report.proofs.heat.add_row.Given as goal

abbrev pub invariant-columns : goal.invariant-columns
invariant-columns g l = record {
  within : l.column < g.row.N;
  begun : border l.columns.first l.columns.pages g.row.N l.column ≤ l.row.start + l.row.pages;
  added : IsAdded l.columns.first l.columns.pages g.row.N l.row l.column l.fn.out l.out;
}

abbrev pub decreases-columns : goal.decreases-columns
decreases-columns g l = g.row.N - l.column
