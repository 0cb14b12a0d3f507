use Rattle.std.proofs.Common.{◌≡◌, ◌<◌, ◌-◌, ℕ, length, get_or}
use Rattle.run_journal.specs.declared.entry.Receipt.{Receipt}
use Rattle.journal_check.proofs.AheadTables.{NamesSo}
use Rattle.journal_check.proofs.receipts.named.name_marked.Given as goal

abbrev pub invariant-receipts : goal.invariant-receipts
invariant-receipts l = record {
  so : NamesSo l.pass l.seen l.marked l.fn.named l.named l.index;
  own : (d : ℕ × Receipt) → l.index < length l.seen → (get_or l.seen l.index d).1.tag ≡ l.pass;
}

abbrev pub decreases-receipts : goal.decreases-receipts
decreases-receipts l = length l.seen - l.index
