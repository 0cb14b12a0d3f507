use Rattle.std.proofs.Common.{◌≡◌, subst, arith}
use Rattle.damon_world.specs.Moment.{events_of_steps}
use Rattle.damon_world.specs.Plays.{Plays}
use Rattle.damon_world.specs.Plays.{PlaysByHit}
use Rattle.damon_world.proofs.world.World.step.Goals as goal

pub returns-clause-plays : goal.returns-clause-plays
returns-clause-plays g c =
    let one : c.advance.result ≡ 1 = omega (arith, c.advance.ensures.count, c.advance.ensures.some) in
    subst (λ n. Plays g.R.Rng.stream c.args.self.now c.advance.new.self (events_of_steps n)) one c.advance.ensures.plays

pub returns-clause-by_hit : goal.returns-clause-by_hit
returns-clause-by_hit g c =
    let one : c.advance.result ≡ 1 = omega (arith, c.advance.ensures.count, c.advance.ensures.some) in
    subst (λ n. PlaysByHit g.R.Rng.stream c.args.self.now c.advance.new.self (events_of_steps n)) one c.advance.ensures.by_hit
