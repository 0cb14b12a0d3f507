use Rattle.std.proofs.Common.{arith}
use Rattle.snapshot_print.proofs.Digits.{digits_begin}
use Rattle.snapshot_print.proofs.fields.short_number_before.Goals as goal

pub returns-clause-most : goal.returns-clause-most
returns-clause-most c =
    digits_begin c.number_before.result c.args.end c.args.value c.number_before.new.bytes c.args.bytes.now c.ranges.value.fits (omega arith) c.number_before.ensures.start c.requires.within (rw (← c.from.ensures) c.number_before.ensures.written)
