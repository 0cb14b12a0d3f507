use Rattle.std.proofs.Common.{◌≡◌, ◌+◌, ◌-◌, arith, append_assoc}
use Rattle.line_text.proofs.HexPairs.{hex_pair, length_hex_pair}
use Rattle.line_text.proofs.hex_digits.write_short.Goals as goal

pub returns-clause-written : goal.returns-clause-written
returns-clause-written c =
    let long = length_hex_pair c.args.value c.if-value-lt256.false (omega arith) in
    let e : c.args.end - 2 + 2 ≡ c.args.end = omega arith in
    rw (c.write_first-2.ensures.written, c.write_pair.ensures.written, e, hex_pair c.args.value c.if-value-lt256.false (omega arith), append_assoc)
