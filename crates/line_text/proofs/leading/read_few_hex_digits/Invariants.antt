use Rattle.std.proofs.Common.{◌≡◌, ◌<◌, ◌+◌, ◌^◌, drop, length}
use Rattle.line_text.specs.Address.{hex_on}
use Rattle.line_text.specs.Leading.{leading_hex_digits}
use Rattle.line_text.proofs.leading.read_few_hex_digits.Given as goal

abbrev pub invariant-loop-index : goal.invariant-loop-index
invariant-loop-index l = record {
  value : hex_on 0 (leading_hex_digits l.bytes) ≡ hex_on l.value (leading_hex_digits (drop l.index l.bytes));
  count : length (leading_hex_digits l.bytes) ≡ l.index + length (leading_hex_digits (drop l.index l.bytes));
  small : l.value < 16 ^ l.index;
}
