use Rattle.std.proofs.Common.{◌≤◌, ◌++◌, refl, sym, ap, ◌∙◌, subst, arith}
use Rattle.snapshot_print.specs.Forms.{writing_of}
use Rattle.snapshot_print.specs.Printed.{printed_monitor}
use Rattle.script_run.specs.Part.{part_value}
use Rattle.script_run.specs.Played.{with_later}
use Rattle.script_run.specs.Player.{left_of}
use Rattle.script_run.proofs.Moves.{OnOk-map, show_made}
use Rattle.script_run.proofs.Next.{player-made}
use Rattle.script_run.proofs.player.Player.show.Goals as goal

pub invariant_of-self : goal.invariant_of-self
invariant_of-self g c =
    let p = c.self.inside in
    let q = part_value p.part in
    let one : 1 ≤ left_of q = subst (λ x. 1 ≤ left_of x) (sym (ap (λ v. v.part) c.self.view_is ∙ c.requires)) (omega arith) in
    player-made g.R.Rng.stream g.C.Callbacks.stands_for p.world p.world p.callbacks p.callbacks q _ one c.self.invariant.somewhere refl refl c.self.invariant

pub returns-clause-on : goal.returns-clause-on
returns-clause-on g c =
    let is = c.self.view_is in
    let out = c.args.out.now.items in
    let form = c.self.inside.form in
    OnOk-map c.print_show.result
    (λ grew. record {
      later = ap (λ v. v.later) is;
      on = λ l. show_made g.R.Rng.stream g.C.Callbacks.callbacks g.C.Callbacks.stands_for g.met.C.Callbacks.in_place (with_later c.args.self.now l) _ _ _ c.requires refl refl (ap (λ v. v.form) is) (ap (λ v. v.world) is) (ap (λ v. v.callbacks) is)
          (grew ∙ ap (λ v. out ++ (writing_of form).show (printed_monitor v)) c.monitor.ensures ∙ ap (λ v. out ++ (writing_of v.form).show (printed_monitor v.world.monitor)) is);
    })
    c.print_show.ensures.ok
