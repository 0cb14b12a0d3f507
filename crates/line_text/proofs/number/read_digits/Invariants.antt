use Rattle.std.proofs.Common.{◌≡◌, ◌≤◌, drop}
use Rattle.std.specs.Str.{all_ascii_digits}
use Rattle.line_text.specs.Number.{value_on}
use Rattle.line_text.proofs.number.read_digits.Given as goal

abbrev pub invariant-loop-byte : goal.invariant-loop-byte
invariant-loop-byte l = record {
  value : value_on 0 l.word ≡ value_on l.value (drop l.byte-index l.word);
  digits : all_ascii_digits l.word ≡ all_ascii_digits (drop l.byte-index l.word);
  most : l.value ≤ l.most;
}
