use Rattle.damon_world.proofs.Hits.{one_by_hit, plays_by_hit}
use Rattle.damon_world.proofs.world.World.advance.Goals as goal

pub returns-in-Idle-clause-by_hit : goal.returns-in-Idle-clause-by_hit
returns-in-Idle-clause-by_hit g c = one_by_hit g.R.Rng.stream c.args.self.now c.prepare.new.self c.prepare.result c.prepare.ensures.one c.prepare.ensures.advance.plays

pub returns-in-Clearing-clause-by_hit : goal.returns-in-Clearing-clause-by_hit
returns-in-Clearing-clause-by_hit g c = plays_by_hit g.R.Rng.stream c.args.self.now c.clear_picks.new.self c.clear_picks.result c.clear_picks.ensures.advance.plays

pub returns-in-Armed-clause-by_hit : goal.returns-in-Armed-clause-by_hit
returns-in-Armed-clause-by_hit g c = plays_by_hit g.R.Rng.stream c.args.self.now c.load_picks.new.self c.load_picks.result c.load_picks.ensures.advance.plays

pub returns-in-Checking-clause-by_hit : goal.returns-in-Checking-clause-by_hit
returns-in-Checking-clause-by_hit g c = plays_by_hit g.R.Rng.stream c.args.self.now c.load_picks-in-Checking.new.self c.load_picks-in-Checking.result c.load_picks-in-Checking.ensures.advance.plays

pub returns-in-Due-clause-by_hit : goal.returns-in-Due-clause-by_hit
returns-in-Due-clause-by_hit g c = one_by_hit g.R.Rng.stream c.args.self.now c.aggregate.new.self c.aggregate.result c.aggregate.ensures.one c.aggregate.ensures.advance.plays

pub returns-in_default-clause-by_hit : goal.returns-in_default-clause-by_hit
returns-in_default-clause-by_hit g c = one_by_hit g.R.Rng.stream c.args.self.now c.observe.new.self c.observe.result c.observe.ensures.one c.observe.ensures.advance.plays
