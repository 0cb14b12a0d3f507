use Rattle.std.proofs.Common.{◌-◌}
use Rattle.page_bits.specs.Bits.{IsLast}
use Rattle.damon_world.specs.Pages.{AreBitsCleared}
use Rattle.damon_world.proofs.plain_pages.clear_side_by_side.Given as goal

abbrev pub invariant-loop-next : goal.invariant-loop-next
invariant-loop-next l = record {
  so_far : AreBitsCleared l.picks.pages l.from (l.next - l.from) l.fn.marks l.marks;
  last : IsLast l.marks l.last;
}
