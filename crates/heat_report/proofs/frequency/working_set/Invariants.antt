use Rattle.std.proofs.Common.{◌≡◌, ◌+◌, ◌*◌, ◌-◌, ◌^◌, ◌≤◌, drop}
use Rattle.damon_types.specs.RowPages.{working_set}
use Rattle.heat_report.proofs.frequency.working_set.Given as goal

abbrev pub invariant-loop-index : goal.invariant-loop-index
invariant-loop-index l = record {
  fits : l.pages ≤ l.index * (2 ^ 32 - 1);
  whole : l.pages + working_set (drop l.index l.rows.rows) ≡ working_set l.rows.rows;
}
