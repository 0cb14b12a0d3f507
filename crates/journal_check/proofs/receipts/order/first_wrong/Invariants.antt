use Rattle.std.proofs.Common.{◌≡◌, length, map}
use Rattle.journal_check.specs.Ahead.{last_in}
use Rattle.journal_check.proofs.LastSeen.{IsLeft}
use Rattle.journal_check.proofs.receipts.order.first_wrong.Given as goal

abbrev pub invariant-loop-index : goal.invariant-loop-index
invariant-loop-index l = record {
  left : IsLeft l.named l.receipts l.index l.last.workers (map last_in l.last.pages.items);
  len : length l.last.pages.items ≡ l.pages;
}
