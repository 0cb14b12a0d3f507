use Rattle.std.proofs.Common.{◌∙◌}
use Rattle.script_run.specs.Player.{WritesLastWith}
use Rattle.script_run.proofs.Moves.{whole-err, whole-ok}
use Rattle.script_run.proofs.player.Player.write_last.Goals as goal

pub returns-clause-last : goal.returns-clause-last
returns-clause-last g c =
    whole-ok (λ text. WritesLastWith g.R.Rng.stream g.C.Callbacks.callbacks g.C.Callbacks.stands_for c.args.self.now c.args.out.now.items text)
    c.append_last-appended.result c.whole_or_nothing.result _ _ c.whole_or_nothing.ensures.same c.append_last-appended.ensures.last c.whole_or_nothing.ensures.ok

pub returns-clause-err : goal.returns-clause-err
returns-clause-err g c =
    whole-err c.append_last-appended.result c.whole_or_nothing.result c.len-before.result c.args.out.now.items _ _ (c.len-before.ensures ∙ c.args.out.now.ok.0) c.whole_or_nothing.ensures.same c.append_last-appended.ensures.err c.whole_or_nothing.ensures.err
