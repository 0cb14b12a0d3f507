use Rattle.std.proofs.Common.{◌++◌, List, Ok, ℕ, length, ap, arith, subst}
use Rattle.rand_core.specs.Steps.{stream_of, steps_u32}
use Rattle.rand_pcg.specs.Pcg.{pcg32}
use Rattle.damon_control.specs.ScriptView.{said_by}
use Rattle.snapshot_print.specs.declared.form.Form.TheVariants.{Text}
use Rattle.script_run.specs.Player.{GoesOn}
use Rattle.script_run.proofs.Ways.{way-last, way-on}
use Rattle.script_run.proofs.to_end.play_to_end.Goals as goal

pub pieces-preserved : goal.pieces-preserved
pieces-preserved c =
    let stream = stream_of (steps_u32 pcg32) in
    let text = c.fill.new.out.items in
    let way = c.pieces.invariant.way in
    let on = subst (λ before. GoesOn stream c.pieces.player c.fill.new.self before text) c.pieces.invariant.empty c.in_ok-fill.ensures.on in
    record {
      way = (way.0 ++ text, way-on stream (said_by c.args.script) Text c.pieces.player c.fill.new.self way.0 text way.1 on);
      empty = c.clear.ensures.items;
    }

pub returns-in-End : goal.returns-in-End
returns-in-End c =
    let stream = stream_of (steps_u32 pcg32) in
    let text = c.fill.new.out.items in
    let way = c.pieces.invariant.way in
    let on = subst (λ before. GoesOn stream c.pieces.player c.fill.new.self before text) c.pieces.invariant.empty c.in_ok-fill.ensures.on in
    let there = way-on stream (said_by c.args.script) Text c.pieces.player c.fill.new.self way.0 text way.1 on in
    let over = c.in_ok-fill.ensures.end (ap (λ f. Ok f) c.in-End.is) in
    (way-last stream (said_by c.args.script) Text c.fill.new.self (way.0 ++ text) there over).monitor

pub pieces-smaller : goal.pieces-smaller
pieces-smaller c =
    let empty = ap (λ (xs : List ℕ). length xs) c.pieces.invariant.empty in
    c.in_ok-fill.ensures.less (ap (λ f. Ok f) c.in-Piece.is) (omega (arith, empty, c.pieces.unread.ok))
