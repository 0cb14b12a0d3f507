use Rattle.std.proofs.Common.{arith}
use Rattle.page_bits.proofs.Masking.{no_run_put, word_put_is}
use Rattle.page_bits.proofs.run.put_part.Goals as goal

pub returns-then-from-to : goal.returns-then-from-to
returns-then-from-to c = no_run_put c.args.words.now _ _ c.args.now (omega (arith, c.if-from-to.true))

pub returns : goal.returns
returns c =
    word_put_is c.args.words.now c.args.index c.args.from c.args.to c.ones_between.result c.put_bits.new.word c.args.now c.put_bits.result (record {
      order = c.requires.order;
      few = c.requires.bits;
      here = omega arith;
      masked = c.ones_between.ensures;
      put = c.put_bits.ensures.bits;
      count = c.put_bits.ensures.count;
    })
