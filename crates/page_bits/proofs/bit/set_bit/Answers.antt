use Rattle.std.proofs.Common.{◌%◌, ◌/◌, true, ap, arith}
use Rattle.std.specs.Prelude.{◌==◌, slice_index}
use Rattle.std.specs.Int.{w64}
use Rattle.std.proofs.lemmas.Nat.Bits.{bit_at_set_same, bit_at_set_other}
use Rattle.page_bits.proofs.One.{one_bit}
use Rattle.page_bits.proofs.bit.set_bit.Goals as goal

pub returns-clause-bits : goal.returns-clause-bits
returns-clause-bits c =
    let page = c.args.page in
    let word = slice_index c.args.words.now (page / 64) in
    one_bit c.args.words.now page _ true c.requires
    (ap (λ n. n == 1) (bit_at_set_same w64 word (page % 64) (omega arith)))
    (λ i below other. bit_at_set_other w64 word (page % 64) (omega arith) i other)
