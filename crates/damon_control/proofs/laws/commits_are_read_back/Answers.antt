use Rattle.damon_control.proofs.ReadWritten.{commit_read_back}
use Rattle.damon_control.proofs.laws.commits_are_read_back.Goals as goal

pub returns : goal.returns
returns c = record { back = commit_read_back }
