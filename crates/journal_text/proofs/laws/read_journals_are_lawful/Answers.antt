use Rattle.journal_text.proofs.FirstLaw.{journals_read_only}
use Rattle.journal_text.proofs.laws.read_journals_are_lawful.Goals as goal

pub returns : goal.returns
returns c = record { law = journals_read_only c.reached_states_are_bound.ensures.in_phase }
