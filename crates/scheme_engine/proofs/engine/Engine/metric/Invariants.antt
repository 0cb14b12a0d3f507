use Rattle.std.proofs.Common.{◌≡◌, ◌++◌, map, take, drop}
use Rattle.scheme_engine.specs.Slots.{metered}
use Rattle.scheme_engine.proofs.engine.Engine.metric.Given as goal

abbrev pub invariant-loop-number : goal.invariant-loop-number
invariant-loop-number l = record {
  slots : l.self-inside.slots ≡ map (metered l.value) (take l.number l.fn.self.slots) ++ drop l.number l.fn.self.slots;
  cap : l.self-inside.candidates ≡ l.initial.self-inside.candidates;
}
