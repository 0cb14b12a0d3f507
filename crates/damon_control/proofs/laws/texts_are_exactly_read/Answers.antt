use Rattle.damon_control.proofs.LeadingScript.{texts_read}
use Rattle.damon_control.proofs.laws.texts_are_exactly_read.Goals as goal

pub returns : goal.returns
returns c = record { texts = texts_read }
