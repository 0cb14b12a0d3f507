use Rattle.line_text.proofs.Numbers.{number-Some}
use Rattle.line_text.proofs.laws.number_is_decimal.Goals as goal

pub returns : goal.returns
returns c = record { only = number-Some }
