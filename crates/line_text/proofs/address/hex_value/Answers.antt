use Rattle.std.proofs.Common.{arith}
use Rattle.std.proofs.lemmas.Bool.Decides.{nat_tests}
use Rattle.line_text.specs.Address.{hex_digit}
use Rattle.line_text.proofs.HexValues.{VALUES_at, is_digit, no_digit}
use Rattle.line_text.proofs.address.hex_value.Goals as goal

pub returns-then-value-lt-NO-clause-exact : goal.returns-then-value-lt-NO-clause-exact
returns-then-value-lt-NO-clause-exact c =
    is_digit (hex_digit c.args.byte) _ (VALUES_at c.args.byte (omega (arith, c.ranges.byte.fits))) (grind (arith, nat_tests, c.if-value-lt-NO.true))

pub returns-else-value-lt-NO-clause-exact : goal.returns-else-value-lt-NO-clause-exact
returns-else-value-lt-NO-clause-exact c =
    no_digit c.args.byte _ (VALUES_at c.args.byte (omega (arith, c.ranges.byte.fits))) (grind (arith, nat_tests, c.if-value-lt-NO.false))
