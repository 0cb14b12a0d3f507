use Rattle.page_bits.proofs.Ones.{ones_between_is}
use Rattle.page_bits.proofs.mask.ones_between.Goals as goal

pub returns : goal.returns
returns c = λ i below. ones_between_is c.args.from c.args.to i c.requires.from c.requires.some c.requires.to below
