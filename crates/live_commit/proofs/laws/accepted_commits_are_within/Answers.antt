use Rattle.live_commit.proofs.Accepting.{commit_accepted, setup_accepted}
use Rattle.live_commit.proofs.laws.accepted_commits_are_within.Goals as goal

pub returns : goal.returns
returns c = record { accepted = commit_accepted; setup = setup_accepted }
