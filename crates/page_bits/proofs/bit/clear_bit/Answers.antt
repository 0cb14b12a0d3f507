use Rattle.std.proofs.Common.{◌%◌, ◌/◌, false, ap, arith}
use Rattle.std.specs.Prelude.{◌==◌, slice_index}
use Rattle.std.specs.Int.{w64}
use Rattle.std.proofs.lemmas.Nat.Bits.{bit_at_clear_same, bit_at_clear_other}
use Rattle.page_bits.proofs.One.{one_bit}
use Rattle.page_bits.proofs.bit.clear_bit.Goals as goal

pub returns-clause-bits : goal.returns-clause-bits
returns-clause-bits c =
    let page = c.args.page in
    let word = slice_index c.args.words.now (page / 64) in
    one_bit c.args.words.now page _ false c.requires
    (ap (λ n. n == 1) (bit_at_clear_same w64 word (page % 64) (omega arith)))
    (λ i below other. bit_at_clear_other w64 word (page % 64) (omega arith) i below other)
