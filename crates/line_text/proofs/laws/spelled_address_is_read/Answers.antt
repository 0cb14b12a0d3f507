use Rattle.line_text.proofs.Addresses.{address-spelled_address}
use Rattle.line_text.proofs.laws.spelled_address_is_read.Goals as goal

pub returns : goal.returns
returns c = record { read_back = address-spelled_address }
