use Rattle.std.proofs.Common.{◌≡◌, ◌+◌, ◌++◌, length}
use Rattle.trace_gen.specs.Gen.{strides}
use Rattle.trace_gen.proofs.commands.add_strides.Given as goal

abbrev pub invariant-strides : goal.invariant-strides
invariant-strides l = record {
  touches : l.commands.list ≡ l.fn.commands.list ++ strides l.t l.j;
  count : length l.commands.list ≡ length l.fn.commands.list + l.j;
}
