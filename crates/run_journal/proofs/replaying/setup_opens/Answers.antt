use Rattle.run_journal.proofs.replaying.setup_opens.Goals as goal

pub returns : goal.returns
returns c = record { space = c.targets-targets.ensures.sound; sound = c.args.setup.now.sound; order = c.len-ranges.ensures.order }
