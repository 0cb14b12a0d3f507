use Rattle.std.proofs.Common.{◌∙◌, arith}
use Rattle.damon_live.proofs.rest.make_calls_of.Goals as goal

pub loop-kept-preserved : goal.loop-kept-preserved
loop-kept-preserved g c =
    let i = c.loop-kept.invariant in
    let made = c.call_idle.ensures in
    (made.idle, made.made ∙ i.1, λ d. omega (arith, i.2 d, made.more d))
