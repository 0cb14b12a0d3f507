use Rattle.std.proofs.Common.{◌≡◌, ◌-◌, ◌++◌, length, vec_capacity}
use Rattle.std.specs.Prelude.{replicate}
use Rattle.damon_world.proofs.drawing.fill_up.Given as goal

abbrev pub invariant-loop : goal.invariant-loop
invariant-loop l = record {
  items : l.items.items ++ replicate (l.count - l.counter) 0 ≡ l.fn.items.items ++ replicate (l.count - length l.fn.items.items) 0;
  capacity : vec_capacity l.items ≡ vec_capacity l.fn.items;
  len : length l.items.items ≡ l.counter;
}
