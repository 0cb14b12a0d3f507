use Rattle.std.proofs.Common.{◌≡◌, ◌<◌, ◌-◌, ℕ, length, drop, get_or}
use Rattle.run_journal.specs.declared.entry.Receipt.{Receipt}
use Rattle.journal_check.proofs.AheadTables.{SetsLeft}
use Rattle.journal_check.proofs.TagChains.{pages_with}
use Rattle.journal_check.proofs.receipts.named.set_pages.Given as goal

abbrev pub invariant-receipts : goal.invariant-receipts
invariant-receipts l = record {
  sets : SetsLeft (pages_with l.tag l.seen) l.value l.fn.table l.table (pages_with l.tag (drop l.index l.seen));
  own : (d : ℕ × Receipt) → l.index < length l.seen → (get_or l.seen l.index d).1.tag ≡ l.tag;
}

abbrev pub decreases-receipts : goal.decreases-receipts
decreases-receipts l = length l.seen - l.index
