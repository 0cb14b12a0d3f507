use Rattle.std.proofs.Common.{◌≡◌, ◌≤◌, ◌+◌, drop, length}
use Rattle.std.specs.Str.{all_ascii_digits}
use Rattle.line_text.specs.Leading.{leading_digits}
use Rattle.line_text.specs.Number.{value_on}
use Rattle.line_text.proofs.leading.read_leading_digits.Given as goal

abbrev pub invariant-loop-index : goal.invariant-loop-index
invariant-loop-index l = record {
  digits : all_ascii_digits (leading_digits l.bytes) ≡ all_ascii_digits (leading_digits (drop l.index l.bytes));
  value : value_on 0 (leading_digits l.bytes) ≡ value_on l.value (leading_digits (drop l.index l.bytes));
  count : length (leading_digits l.bytes) ≡ l.index + length (leading_digits (drop l.index l.bytes));
  most : l.value ≤ l.most;
}
