use Rattle.std.proofs.Common.{◌≡◌, ◌≤◌, ◌+◌, ◌++◌, drop, length, map}
use Rattle.std.specs.Prelude.{vec_capacity}
use Rattle.line_text.specs.Appended.{KeepsFront}
use Rattle.journal_text.specs.Spelled.{bit_digit}
use Rattle.journal_text.proofs.entry_lines.write_digits.Given as goal

abbrev pub invariant-loop-k : goal.invariant-loop-k
invariant-loop-k l = record {
  text : l.out.items ++ map bit_digit (drop l.k l.bits) ≡ l.fn.out.items ++ map bit_digit l.bits;
  room : length l.out.items + length (drop l.k l.bits) ≤ vec_capacity l.out;
  kept : KeepsFront l.fn.out.items l.out.items;
}
