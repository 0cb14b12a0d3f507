use Rattle.std.proofs.Common.{◌≡◌, ◌+◌, ◌%◌, false, set, arith, length-set}
use Rattle.std.specs.Fmt.{digit_glyph}
use Rattle.std.proofs.lemmas.List.{set_comm, drop-set}
use Rattle.line_text.proofs.HexPairs.{PAIRS_at}
use Rattle.line_text.proofs.hex_digits.write_pair.Goals as goal

pub returns-clause-written : goal.returns-clause-written
returns-clause-written c =
    let p = PAIRS_at c.args.pair c.requires.small in
    let at = c.args.at in
    let bytes = c.args.bytes.now in
    let last = digit_glyph false (c.args.pair % 16) in
    let e : at + 1 + 1 ≡ at + 2 = omega arith in
    rw (p.0, p.1, set_comm bytes at (at + 1) _ _ (λ x. omega arith), drop-set (set bytes (at + 1) last) at _ (omega (arith, length-set bytes (at + 1) last)), drop-set bytes (at + 1) _ (omega arith), e)
