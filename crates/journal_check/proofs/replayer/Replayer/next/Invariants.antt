use Rattle.std.proofs.Common.{◌≡◌, ◌≤◌}
use Rattle.journal_check.specs.Replayer.{KeepsWay}
use Rattle.journal_check.proofs.replayer.Replayer.next.Given as goal

-- the entries so far were no aggregations
abbrev pub invariant-entries : goal.invariant-entries
invariant-entries l = record {
  leads : KeepsWay l.fn.self l.self;
  few : l.self.left ≤ l.fn.self.left;
  space : l.self.monitor.core.space ≡ l.fn.self.monitor.core.space;
}

abbrev pub decreases-entries : goal.decreases-entries
decreases-entries l = l.self.left
