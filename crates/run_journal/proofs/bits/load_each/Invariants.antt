use Rattle.std.proofs.Common.{◌≡◌, take, map}
use Rattle.damon_core.specs.Event.{load}
use Rattle.damon_core.specs.Makes.{Makes}
use Rattle.damon_core.specs.Stands.{Stands}
use Rattle.run_journal.specs.Bits.{run_of}
use Rattle.run_journal.specs.Phases.{phase_loaded}
use Rattle.run_journal.proofs.bits.load_each.Given as goal

abbrev pub invariant-loop-k : goal.invariant-loop-k
invariant-loop-k l =
    (l.monitor.core ≡ record l.initial.monitor.core { phase = phase_loaded l.k })
    × Makes Stands l.initial.monitor l.monitor (map (λ bit. load bit) (take l.k (run_of l.bits.list.now l.bits.start l.bits.count)))
