use Rattle.script_run.proofs.ScriptEvents.{events_are_alone}
use Rattle.script_run.proofs.laws.events_are_alone.Goals as goal

pub returns : goal.returns
returns c = events_are_alone
