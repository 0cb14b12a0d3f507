use Rattle.std.proofs.Common.{◌≡◌, ◌++◌, take}
use Rattle.run_journal.proofs.bits.BitList.extend.Given as goal

abbrev pub invariant-loop-k : goal.invariant-loop-k
invariant-loop-k l = l.self ≡ l.initial.self ++ take l.k l.bits
