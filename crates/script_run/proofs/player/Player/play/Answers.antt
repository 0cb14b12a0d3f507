use Rattle.script_run.proofs.player.Player.play.Goals as goal

pub returns-in-Touches-clause-on : goal.returns-in-Touches-clause-on
returns-in-Touches-clause-on g c = c.touch.ensures.on c.args.out.now.items

pub returns-in-Steps-2-clause-on : goal.returns-in-Steps-2-clause-on
returns-in-Steps-2-clause-on g c = c.step.ensures.on c.args.out.now.items
