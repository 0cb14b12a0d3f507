use Rattle.script_run.proofs.Commands.{goes_on}
use Rattle.script_run.proofs.Moves.{OnOk-map, on-then}
use Rattle.script_run.proofs.player.Player.make_next.Goals as goal

pub returns-then-is_done-clause-on : goal.returns-then-is_done-clause-on
returns-then-is_done-clause-on g c =
    let before = c.args.out.now.items in
    let after = c.begin_next.new.out.items in
    OnOk-map c.begin_next.result
    (λ on. on-then g.R.Rng.stream g.C.Callbacks.callbacks g.C.Callbacks.stands_for c.args.self.now c.touch_on.new.self c.begin_next.new.self before before after (c.touch_on.ensures.on before) on)
    c.begin_next.ensures.on

pub returns-clause-on : goal.returns-clause-on
returns-clause-on g c =
    goes_on g.R.Rng.stream g.C.Callbacks.callbacks g.C.Callbacks.stands_for c.args.self.now c.play.new.self c.args.out.now.items c.play.new.out.items c.in_ok-play.ensures.on
