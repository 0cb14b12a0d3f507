use Rattle.std.proofs.Common.{◌≡◌}
use Rattle.trace_gen.specs.Gen.{blocks}
use Rattle.trace_gen.proofs.commands.make_commands.Given as goal

abbrev pub invariant-passes : goal.invariant-passes
invariant-passes l = l.commands.list ≡ blocks l.access l.zone l.t
