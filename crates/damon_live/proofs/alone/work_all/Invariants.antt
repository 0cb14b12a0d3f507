use Rattle.std.proofs.Common.{◌≡◌, ◌≤◌, ◌<◌, ◌+◌, ℕ, vec_len}
use Rattle.std.specs.Prelude.{slice_index_or, vec_capacity}
use Rattle.std.specs.Vec.Iter.{into_iter_items, into_iter_len}
use Rattle.damon_live.specs.Work.{AreNumbered}
use Rattle.damon_live.proofs.alone.work_all.Given as goal

abbrev pub invariant-loop-job : goal.invariant-loop-job
invariant-loop-job g l =
    (vec_len l.made + into_iter_len l.job-iterator ≡ vec_len l.fn.jobs)
    × (vec_len l.fn.jobs ≤ vec_capacity l.made)
    × AreNumbered (λ d. d.worker) l.made.items
    × ((i : ℕ) (j : _) → i < into_iter_len l.job-iterator → (slice_index_or (into_iter_items l.job-iterator) i j).worker ≡ vec_len l.made + i)
