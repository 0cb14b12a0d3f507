use Rattle.std.proofs.Common.{◌+◌}
use Rattle.damon_control.proofs.LiveTouch.{reads_live_touch}
use Rattle.damon_control.proofs.TouchLemmas.{reads_touch}
use Rattle.damon_control.proofs.lines.Lines.take_touch.Goals as goal

pub returns-clause-said : goal.returns-clause-said
returns-clause-said c = λ b same.
    reads_touch _ _ _ _ c.in_ok-page.ensures.line (c.args.self.now.taken + 1) b same

pub returns-clause-live : goal.returns-clause-live
returns-clause-live c = λ v ws t same.
    reads_live_touch _ _ _ _ c.in_ok-page.ensures.line (c.args.self.now.taken + 1) v ws t same
