use Rattle.damon_types.specs.Space.{pages_of}
use Rattle.damon_live.proofs.Working.{pages_said}
use Rattle.damon_live.proofs.threads.run_threads.Goals as goal

pub run_named-requires-clause-pages : goal.run_named-requires-clause-pages
run_named-requires-clause-pages g c = λ asked outlives. pages_said (pages_of c.args.script.setup.space) c.args.script.workers.list c.requires.pages
