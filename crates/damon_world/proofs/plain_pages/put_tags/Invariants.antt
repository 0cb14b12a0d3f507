use Rattle.std.proofs.Common.{◌≡◌, ℕ, ◌-◌, ◌<◌, length}
use Rattle.std.specs.Prelude.{slice_index, if◌then◌else◌}
use Rattle.damon_world.specs.Pages.{is_picked}
use Rattle.damon_world.proofs.plain_pages.put_tags.Given as goal

abbrev pub invariant-loop-next : goal.invariant-loop-next
invariant-loop-next l = record {
  len : length l.tags ≡ length l.fn.tags;
  tags : (p : ℕ) → p < length l.fn.tags → slice_index l.tags p ≡ (if is_picked l.picks.pages l.from (l.next - l.from) p then l.tag else slice_index l.fn.tags p);
}
