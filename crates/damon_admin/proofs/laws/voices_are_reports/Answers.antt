use Rattle.damon_admin.proofs.Voices.{voices}
use Rattle.damon_admin.proofs.laws.voices_are_reports.Goals as goal

pub returns : goal.returns
returns c = record { voices = voices }
