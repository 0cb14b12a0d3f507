use Rattle.std.proofs.Common.{rules, ◌≡◌, ap, ◌∙◌}
use Rattle.rand_pcg.specs.Lcg.{advance}
use Rattle.rand_pcg.specs.Pcg.{multiplier_64}
use Rattle.sampler.specs.Seeds.{words_from}
use Rattle.sampler.proofs.Lemmas.{words_jumped}
use Rattle.damon_world.proofs.drawing.Lcg64Xsh32Jump.after.Goals as goal

pub returns : goal.returns
returns c =
    let same : c.in-Ok.later ≡ c.args.self.now = search rules in
    ap words_from (c.advance.ensures ∙ ap (advance 64 multiplier_64 c.args.count) same)
    ∙ words_jumped c.args.count c.args.self.now
