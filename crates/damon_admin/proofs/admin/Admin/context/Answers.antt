use Rattle.std.proofs.Common.{◌≡◌, Some, sym}
use Rattle.std.specs.Prelude.{slice_get}
use Rattle.std.proofs.lemmas.Option.{slice_get_read}
use Rattle.damon_admin.proofs.Bounded.{IsKnown, known}
use Rattle.damon_admin.proofs.admin.Admin.context.Goals as goal

pub returns : goal.returns
returns c =
    let p = c.self.inside in
    let xs = p.contexts.items in
    let x = c.index.result.now in
    let here : slice_get xs c.args.context ≡ Some x = slice_get_read xs 8 c.args.context x (sym c.self.invariant.eight) c.requires c.index.ensures in
    let is : IsKnown c.args.context c.args.self.now c.monitor.result =
    known c.scripts_are_sound.ensures.sound c.each_script_is_bound.ensures p.input.items p.at p.done p.failed xs c.self.invariant c.args.self.now c.self.view_is
    c.args.context x c.monitor.result here c.monitor.ensures in
    record { some = is.some; none = is.none; stands = is.stands }
