use Rattle.std.proofs.Common.{arith}
use Rattle.damon_live.proofs.Working.{some_page}
use Rattle.damon_live.proofs.jobs.make_words.Goals as goal

pub new-requires : goal.new-requires
new-requires c = omega (arith, some_page c.args.script.now.setup.space c.targets-targets.ensures.sound, c.pages.ensures)
