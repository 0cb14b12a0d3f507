use Rattle.std.proofs.Common.{arith, ap, sym, ◌∙◌}
use Rattle.damon_live.proofs.Working.{numbered_alike}
use Rattle.damon_live.proofs.beside.work_beside.Goals as goal

pub returns-clause-numbered : goal.returns-clause-numbered
returns-clause-numbered g c =
    numbered_alike (λ j. j.worker) (λ d. d.worker) c.args.jobs.items c.in_ok-made.made.items (omega (arith, c.in_ok-made.ensures.len)) c.requires.numbered
    (λ i d j below. let given = (c.in_ok-made.ensures.each i d below).1 in given.call.met ∙ ap (λ k. k.worker) (sym (given.job_is j)))
