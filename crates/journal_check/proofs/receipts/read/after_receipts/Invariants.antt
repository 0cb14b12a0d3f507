use Rattle.std.proofs.Common.{◌≡◌, ◌≤◌, suc, length}
use Rattle.std.specs.Option.{option_copied}
use Rattle.line_text.specs.Parts.{parts, parts_left}
use Rattle.script_lines.proofs.Lemmas.{size_left}
use Rattle.journal_check.specs.Ahead.{after_receipts}
use Rattle.journal_check.proofs.receipts.read.after_receipts.Given as goal

abbrev pub invariant-lines : goal.invariant-lines
invariant-lines l = record {
  exact : after_receipts (parts_left 10 (option_copied l.rest)) ≡ after_receipts (parts 10 l.text);
  shorter : size_left l.rest ≤ suc (length l.text);
}

abbrev pub decreases-lines : goal.decreases-lines
decreases-lines l = size_left l.rest
