use Rattle.std.proofs.Common.{◌≡◌, ◌≤◌, ◌-◌, ◌++◌}
use Rattle.std.specs.List.{range_with_len}
use Rattle.damon_control.proofs.live_reader.push_pages.Given as goal

abbrev pub invariant-loop-page : goal.invariant-loop-page
invariant-loop-page l = record {
  list : l.trace.list ≡ l.fn.trace.list ++ range_with_len l.fn.pages.from (l.page - l.fn.pages.from);
  low : l.fn.pages.from ≤ l.page;
  high : l.page ≤ l.fn.pages.to;
}
