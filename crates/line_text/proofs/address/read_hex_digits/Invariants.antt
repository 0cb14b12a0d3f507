use Rattle.std.proofs.Common.{◌≡◌, ◌<◌, ◌^◌, drop}
use Rattle.line_text.specs.Address.{hex_on}
use Rattle.line_text.proofs.address.read_hex_digits.Given as goal

abbrev pub invariant-loop-byte : goal.invariant-loop-byte
invariant-loop-byte l = record {
  value : hex_on 0 l.word ≡ hex_on l.value (drop l.byte-index l.word);
  small : l.value < 16 ^ l.byte-index;
}
