use Rattle.live_commit.specs.SetupView.{value_of}
use Rattle.trace_gen.proofs.SetupLimits.{gen_within, gen_work}
use Rattle.trace_gen.proofs.script.generate.Goals as goal

pub returns-clause-within : goal.returns-clause-within
returns-clause-within c = gen_within c.args.n (value_of c.in_ok-setup.setup) c.in_ok-commands.commands.list c.in_ok-setup.ensures c.in_ok-commands.ensures

pub returns-clause-work : goal.returns-clause-work
returns-clause-work c = gen_work c.args.n (value_of c.in_ok-setup.setup) c.in_ok-commands.commands.list c.in_ok-setup.ensures c.in_ok-commands.ensures
