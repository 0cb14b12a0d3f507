use Rattle.std.proofs.Common.{◌≡◌, ◌+◌, ◌-◌, ◌%◌, false, arith}
use Rattle.std.proofs.lemmas.Fmt.{hex_one_digit}
use Rattle.std.proofs.lemmas.List.{drop-set}
use Rattle.line_text.proofs.HexPairs.{PAIRS_at, length_hex_one, hex_two, length_hex_two}
use Rattle.line_text.proofs.hex_digits.write_first.Goals as goal

pub returns-then-value-lt16-clause-written : goal.returns-then-value-lt16-clause-written
returns-then-value-lt16-clause-written c =
    let n = c.args.value in
    let small = c.if-value-lt16.true in
    let long = length_hex_one n small in
    let last : n % 16 ≡ n = omega arith in
    let e : c.args.end - 1 + 1 ≡ c.args.end = omega arith in
    rw (drop-set c.args.bytes.now (c.args.end - 1) _ (omega arith), e, (PAIRS_at n (omega arith)).1, last, hex_one_digit false n small)

pub returns-clause-written : goal.returns-clause-written
returns-clause-written c =
    let long = length_hex_two c.args.value c.if-value-lt16.false c.requires.small in
    let e : c.args.end - 2 + 2 ≡ c.args.end = omega arith in
    rw (c.write_pair.ensures.written, e, hex_two c.args.value c.if-value-lt16.false c.requires.small)
