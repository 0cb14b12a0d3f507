use Rattle.std.proofs.Common.{◌≡◌, ◌+◌, ◌≤◌, ◌++◌, length, drop, take, false}
use Rattle.std.specs.Fmt.{digits}
use Rattle.line_text.proofs.hex_digits.write_hex.Given as goal

abbrev pub invariant-fours : goal.invariant-fours
invariant-fours l = record {
  room : length (digits 16 false l.left) ≤ l.at;
  within : l.at ≤ l.end;
  place : l.at + length (digits 16 false l.value) ≡ l.end + length (digits 16 false l.left);
  text : digits 16 false l.left ++ drop l.at l.bytes ≡ digits 16 false l.value ++ drop l.end l.fn.bytes;
  before : take l.at l.bytes ≡ take l.at l.fn.bytes;
}

abbrev pub decreases-fours : goal.decreases-fours
decreases-fours l = l.left
