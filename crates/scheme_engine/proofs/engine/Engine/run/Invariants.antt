use Rattle.std.proofs.Common.{◌≡◌, ◌*◌, ◌≤◌, length}
use Rattle.scheme_engine.specs.declared.slot.TheConstants.{SLOTS}
use Rattle.scheme_filter.specs.declared.runs.TheConstants.{MAX_RUNS}
use Rattle.scheme_engine.proofs.EngineLemmas.{IsServing}
use Rattle.scheme_engine.proofs.engine.Engine.run.Given as goal

abbrev pub invariant-loop-number : goal.invariant-loop-number
invariant-loop-number l = record {
  serving : IsServing l.space l.aggr l.tick l.fn.regions l.fn.self.slots l.number l.self-inside.slots l.regions l.applied.runs l.applied.choices;
  size : length l.self-inside.slots ≡ SLOTS;
  cap : l.self-inside.candidates.cap ≡ l.fn.self.cap;
  applied_cap : l.applied.cap ≡ l.fn.applied.cap;
  few : length l.applied.runs ≤ l.number * (MAX_RUNS * l.fn.self.cap);
  some : length l.applied.choices ≤ l.number;
}
