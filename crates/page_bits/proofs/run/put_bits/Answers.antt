use Rattle.std.proofs.lemmas.Nat.{and_le_r}
use Rattle.page_bits.proofs.Digits.{new_bit, ones_of_changed}
use Rattle.page_bits.proofs.run.put_bits.Goals as goal

pub returns-clause-bits : goal.returns-clause-bits
returns-clause-bits c = λ i below. new_bit c.args.word.now c.all_bits.result c.args.mask i c.args.now below c.all_bits.ensures

pub returns-clause-count : goal.returns-clause-count
returns-clause-count c = λ n all. ones_of_changed n c.args.word.now c.all_bits.result c.args.mask c.args.now all c.ranges.mask.fits (and_le_r _ c.args.mask) c.all_bits.ensures
