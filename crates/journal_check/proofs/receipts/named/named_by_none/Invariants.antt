use Rattle.journal_check.proofs.AheadTables.{NamesBefore}
use Rattle.journal_check.proofs.receipts.named.named_by_none.Given as goal

abbrev pub invariant-loop-index : goal.invariant-loop-index
invariant-loop-index l = NamesBefore l.receipts l.named l.index
