use Rattle.line_text.proofs.Numbers.{number-decimal}
use Rattle.line_text.proofs.laws.decimal_is_read.Goals as goal

pub returns : goal.returns
returns c = record { read_back = number-decimal }
