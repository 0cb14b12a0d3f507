use Rattle.line_text.proofs.Addresses.{address-Some}
use Rattle.line_text.proofs.laws.address_is_spelled.Goals as goal

pub returns : goal.returns
returns c = record { only = address-Some }
