use Rattle.std.proofs.Common.{◌++◌, ap, ◌∙◌, append_assoc, subst, sym}
use Rattle.damon_core.specs.Stands.{Stands}
use Rattle.snapshot_print.specs.Forms.{writing_of}
use Rattle.snapshot_print.specs.Printed.{printed_monitor, printed_state}
use Rattle.snapshot_print.proofs.Lemmas.{printed_monitor-stands}
use Rattle.script_run.proofs.Moves.{OnOk-map}
use Rattle.script_run.proofs.player.Player.append_last.Goals as goal

pub returns-clause-last : goal.returns-clause-last
returns-clause-last g c =
    let p = c.args.self.now in
    let is = c.self.view_is in
    let out = c.args.out.now.items in
    let ends = g.C.Callbacks.callbacks.ends in
    let form = c.self.inside.form in
    OnOk-map c.append_end.result
    (λ lines r here.
    let s = r.moment.state in
    let own = (writing_of p.form).end (printed_state s) in
    let shows = subst (λ v. Stands v s) (ap (λ v. v.world.monitor) (sym is) ∙ sym c.monitor-2.ensures) here.world.state.monitor in
    lines r.memory s (subst (λ k. g.C.Callbacks.stands_for k r.memory s) (ap (λ v. v.callbacks) (sym is)) here.callbacks) shows
    ∙ ap (λ t. t ++ ends r.memory s) (c.in_ok-print_end.ensures.ok
    ∙ ap (λ v. out ++ (writing_of form).end (printed_monitor v)) c.monitor.ensures
    ∙ ap (λ v. out ++ (writing_of v.form).end (printed_monitor v.world.monitor)) is
    ∙ ap (λ q. out ++ (writing_of p.form).end q) (printed_monitor-stands p.world.monitor s here.world.state.monitor))
    ∙ append_assoc out own (ends r.memory s))
    c.append_end.ensures.ok
