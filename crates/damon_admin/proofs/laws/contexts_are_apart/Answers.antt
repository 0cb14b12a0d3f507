use Rattle.damon_admin.proofs.Voices.{apart}
use Rattle.damon_admin.proofs.laws.contexts_are_apart.Goals as goal

pub returns : goal.returns
returns c = record { apart = apart c.voices_are_reports.ensures.voices }
