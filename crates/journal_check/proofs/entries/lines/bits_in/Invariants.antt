use Rattle.std.proofs.Common.{◌≡◌, ◌≤◌, ◌+◌, ◌++◌, drop, length}
use Rattle.std.specs.Prelude.{map, vec_capacity}
use Rattle.journal_text.specs.EntryLine.{is_one}
use Rattle.journal_check.proofs.entries.lines.bits_in.Given as goal

abbrev pub invariant-digits : goal.invariant-digits
invariant-digits l = record {
  said : map is_one l.fn.digits ≡ l.bits.items ++ map is_one (drop l.digit-index l.fn.digits);
  room : length l.bits.items + length (drop l.digit-index l.fn.digits) ≤ vec_capacity l.bits;
}
