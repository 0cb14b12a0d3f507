use Rattle.std.proofs.Common.{◌≡◌, ℕ, ◌≤◌, List}
use Rattle.run_journal.specs.declared.entry.Receipt.{Receipt}
use Rattle.journal_check.specs.Ahead.{ShowsTag, receipts_of}
use Rattle.journal_check.proofs.OpenHits.{open_among}
use Rattle.journal_check.proofs.receipts.named.hits_without_mark.Given as goal

abbrev pub invariant-loop-k : goal.invariant-loop-k
invariant-loop-k l = record {
  exact : (pass : ℕ) (xs : List (ℕ × Receipt)) → ShowsTag pass xs l.marked → l.open ≡ open_among (receipts_of xs) pass l.picks.pages l.bits l.k;
  few : l.open ≤ l.k;
}
