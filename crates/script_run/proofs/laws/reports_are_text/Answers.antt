use Rattle.script_run.proofs.TextReports.{reports_are}
use Rattle.script_run.proofs.laws.reports_are_text.Goals as goal

pub returns : goal.returns
returns c = reports_are c.texts_are_of_states.ensures
