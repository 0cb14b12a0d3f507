use Rattle.std.proofs.Common.{◌-◌, ◌≤◌, All, length}
use Rattle.damon_admin.proofs.Gathering.{IsNone}
use Rattle.damon_admin.proofs.gather.no_lines.Given as goal

abbrev pub invariant-contexts : goal.invariant-contexts
invariant-contexts l = record {
  few : length l.contexts.items ≤ 8;
  none : All IsNone l.contexts.items;
}

abbrev pub decreases-contexts : goal.decreases-contexts
decreases-contexts l = 8 - length l.contexts.items
