use Rattle.std.proofs.Common.{◌≡◌, ◌&&◌, drop}
use Rattle.std.specs.List.{list_all}
use Rattle.journal_text.specs.EntryLine.{is_bit}
use Rattle.journal_check.proofs.entries.lines.are_bits.Given as goal

abbrev pub invariant-digits : goal.invariant-digits
invariant-digits l = list_all is_bit l.fn.digits ≡ (l.all && list_all is_bit (drop l.digit-index l.fn.digits))
