use Rattle.journal_check.proofs.Starting.{of_lawful, reads_run}
use Rattle.journal_check.proofs.replayer.Replayer.new.Goals as goal

pub start-requires-clause-lawful : goal.start-requires-clause-lawful
start-requires-clause-lawful c = of_lawful c.read_journals_are_lawful.ensures.law c.args.bytes.now _ _ c.requires c.in_ok-_counts.ensures.read

pub returns-clause-lawful : goal.returns-clause-lawful
returns-clause-lawful c = reads_run c.read_journals_are_lawful.ensures.law c.woven_runs.ensures c.hits_are_few.ensures c.args.bytes.now _ _ _ c.requires c.in_ok-_counts.ensures.read c.in_ok-replayer.ensures.fresh c.in_ok-replayer.ensures.leads c.in_ok-replayer.ensures.space
