use Rattle.std.proofs.Common.{◌≡◌, true, sym, ap, ◌∙◌}
use Rattle.std.proofs.lemmas.Result.{err_from_is_err_and}
use Rattle.line_text.proofs.Lemmas.{keeps_through}
use Rattle.script_run.specs.Part.{part_value}
use Rattle.script_run.specs.Parts.{is_done}
use Rattle.script_run.proofs.Commands.{begins_then, begun_keeps, plays_next}
use Rattle.script_run.proofs.player.Player.play_all.Goals as goal

pub returns-then-is_done-clause-next : goal.returns-then-is_done-clause-next
returns-then-is_done-clause-next g c =
    let p = c.self.inside in
    let q = part_value p.part in
    let done : is_done c.moves.self.part c.moves.self.world.monitor.core.phase ≡ true =
    ap (λ v. is_done v.part v.world.monitor.core.phase) (sym c.self.view_is)
    ∙ ap (λ m. is_done q m.core.phase) (sym c.monitor.ensures)
    ∙ ap (λ phase. is_done q phase) (sym c.phase-phase.ensures.phase)
    ∙ sym c.is_done.ensures
    ∙ c.if-is_done.true in
    plays_next g.R.Rng.stream g.C.Callbacks.callbacks g.C.Callbacks.stands_for c.args.self.now c.moves.self c.args.out.now.items c.moves.out.items c.moves.invariant done

pub moves-preserved : goal.moves-preserved
moves-preserved g c =
    begins_then g.R.Rng.stream g.C.Callbacks.callbacks g.C.Callbacks.stands_for c.args.self.now c.moves.self c.play.new.self c.args.out.now.items c.moves.out.items c.play.new.out.items
    c.moves.invariant c.in_ok-play.ensures.on

pub returns-in_err-play-clause-err : goal.returns-in_err-play-clause-err
returns-in_err-play-clause-err g c =
    let p = err_from_is_err_and c.from_residual-in_err-play.result c.from_residual-in_err-play.ensures.1 in
    let front = begun_keeps g.R.Rng.stream g.C.Callbacks.callbacks g.C.Callbacks.stands_for c.args.self.now c.moves.self c.args.out.now.items c.moves.out.items c.stand.ensures c.moves.invariant in
    rw p.1 (keeps_through c.args.out.now.items c.moves.out.items c.play.new.out.items front c.in_err-play.ensures.err)
