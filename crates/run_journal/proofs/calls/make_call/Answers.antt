use Rattle.std.proofs.Common.{sym}
use Rattle.live_commit.specs.Commit.{commit_value}
use Rattle.run_journal.proofs.Carrying.{pass_kept}
use Rattle.run_journal.proofs.calls.make_call.Goals as goal

pub returns-in-Commit-clause-pass : goal.returns-in-Commit-clause-pass
returns-in-Commit-clause-pass c = pass_kept (commit_value c.deref.result.now) c.args.monitor.now.core c.commit.new.self.core c.commit.ensures.core c.commit.ensures.ticks

pub returns-in-Commit-clause-event : goal.returns-in-Commit-clause-event
returns-in-Commit-clause-event c = rw (c.in-Commit.is, sym c.deref.ensures) c.commit.ensures.event
