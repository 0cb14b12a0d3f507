use Rattle.std.proofs.Common.{sym, ◌∙◌}
use Rattle.script_run.specs.Player.{GoesOnWith}
use Rattle.script_run.proofs.Moves.{whole-err, whole-ok}
use Rattle.script_run.proofs.player.Player.go_on.Goals as goal

pub returns-clause-on : goal.returns-clause-on
returns-clause-on g c =
    whole-ok (λ text. GoesOnWith g.R.Rng.stream g.C.Callbacks.callbacks g.C.Callbacks.stands_for c.args.self.now c.make_next-went.new.self c.args.out.now.items text)
    c.make_next-went.result c.whole_or_nothing.result _ _ c.whole_or_nothing.ensures.same c.make_next-went.ensures.on c.whole_or_nothing.ensures.ok

pub returns-clause-err : goal.returns-clause-err
returns-clause-err g c =
    whole-err c.make_next-went.result c.whole_or_nothing.result c.len-before.result c.args.out.now.items _ _ (c.len-before.ensures ∙ c.args.out.now.ok.0) c.whole_or_nothing.ensures.same c.make_next-went.ensures.err c.whole_or_nothing.ensures.err

pub returns-clause-less : goal.returns-clause-less
returns-clause-less g c more = c.make_next-went.ensures.less (sym c.whole_or_nothing.ensures.same ∙ more)

pub returns-clause-end : goal.returns-clause-end
returns-clause-end g c none = c.make_next-went.ensures.end (sym c.whole_or_nothing.ensures.same ∙ none)
