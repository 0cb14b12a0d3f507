use Rattle.std.proofs.Common.{◌<◌, length, sym, subst, ap, ◌∙◌}
use Rattle.std.specs.Prelude.{slice_index}
use Rattle.damon_world.proofs.world.World.touch.Goals as goal

pub returns-clause-noted : goal.returns-clause-noted
returns-clause-noted g c s stands =
    let page = c.args.page in
    let within : page < length c.args.self.now.pages.tags = subst (λ n. page < n) (sym c.requires.tags) c.requires.page in
    c.tag-tag.ensures ∙ ap (λ w. slice_index w.pages.tags page) c.self.view_is ∙ stands.pages.tags page within
