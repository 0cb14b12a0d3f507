use Rattle.std.proofs.Common.{length}
use Rattle.sampler.specs.Draws.{drawn}
use Rattle.damon_core.proofs.Preparing.{sampling_prepared}
use Rattle.damon_core.proofs.sampling.Sampling.prepare_from.Goals as goal

pub invariant_of-self : goal.invariant_of-self
invariant_of-self g c =
    let i = c.self.inside in
    let ws = drawn (length i.regions.rows) (g.R.Rng.stream c.args.source.now) in
    sampling_prepared i.regions i.phase i.picks c.draw_picks.new.picks i.hits_so_far i.earlier.cap i.room ws c.self.invariant c.draw_picks.ensures.each c.draw_picks.ensures.picks
