use Rattle.std.proofs.Common.{◌≡◌, ◌≤◌, [], vec_len}
use Rattle.std.specs.Prelude.{vec_capacity}
use Rattle.damon_live.specs.Work.{AreNumbered}
use Rattle.damon_live.proofs.jobs.split_all.Given as goal

abbrev pub invariant-loop-worker : goal.invariant-loop-worker
invariant-loop-worker g l =
    (l.seat ≡ record { table = g.N.Named.table; entries = []; out = l.worker })
    × (vec_len l.jobs ≡ l.worker)
    × (l.workers ≤ vec_capacity l.jobs)
    × AreNumbered (λ j. j.worker) l.jobs.items
