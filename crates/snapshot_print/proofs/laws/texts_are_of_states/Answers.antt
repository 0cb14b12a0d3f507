use Rattle.snapshot_print.proofs.StateText.{states_are_text}
use Rattle.snapshot_print.proofs.laws.texts_are_of_states.Goals as goal

pub returns : goal.returns
returns c = states_are_text
