use Rattle.std.proofs.Common.{◌≡◌, length, sym, subst}
use Rattle.damon_core.specs.Kept.{SamplingView}
use Rattle.damon_core.proofs.Preparing.{sampling_prepared}
use Rattle.damon_core.proofs.sampling.Sampling.prepare.Goals as goal

pub invariant_of-self : goal.invariant_of-self
invariant_of-self c =
    let i = c.self.inside in
    let each = subst (λ (v : SamplingView). length c.args.words.now ≡ length v.regions.rows) (sym c.self.view_is) c.requires in
    sampling_prepared i.regions i.phase i.picks c.set_picks.new.picks i.hits_so_far i.earlier.cap i.room c.args.words.now c.self.invariant each c.set_picks.ensures
