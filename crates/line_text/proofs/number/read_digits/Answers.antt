use Rattle.std.proofs.Common.{◌∙◌, sym}
use Rattle.line_text.proofs.Values.{no_number}
use Rattle.line_text.proofs.number.read_digits.Goals as goal

pub returns-in_err-value-clause-exact : goal.returns-in_err-value-clause-exact
returns-in_err-value-clause-exact c =
    c.from_residual.ensures
    ∙ no_number c.args.most c.loop-byte.value c.loop-byte.byte-index c.args.word.now c.loop-byte-test.true c.loop-byte.invariant.value c.loop-byte.invariant.digits
    (sym c.with_digit.ensures.exact ∙ c.in_err-value.was)
