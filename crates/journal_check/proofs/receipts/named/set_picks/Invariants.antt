use Rattle.std.proofs.Common.{drop}
use Rattle.journal_check.proofs.AheadTables.{SetsLeft}
use Rattle.journal_check.proofs.receipts.named.set_picks.Given as goal

abbrev pub invariant-loop-pick : goal.invariant-loop-pick
invariant-loop-pick l = SetsLeft l.picks.pages l.value l.fn.table l.table (drop l.pick l.picks.pages)
