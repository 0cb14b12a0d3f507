use Rattle.std.proofs.Common.{◌-◌}
use Rattle.damon_world.specs.Pages.{AreBitsCleared}
use Rattle.damon_world.proofs.plain_pages.clear_one_by_one.Given as goal

abbrev pub invariant-loop-next : goal.invariant-loop-next
invariant-loop-next l = AreBitsCleared l.picks.pages l.from (l.next - l.from) l.fn.marks l.marks
