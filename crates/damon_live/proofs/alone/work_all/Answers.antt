use Rattle.std.proofs.Common.{rules, ◌≡◌, ◌+◌, length, sym, ◌∙◌, subst, vec_len, arith}
use Rattle.std.specs.Prelude.{slice_index_or}
use Rattle.std.specs.Vec.Iter.{into_iter_items, into_iter_len}
use Rattle.damon_live.specs.Work.{AreNumbered}
use Rattle.damon_live.proofs.Working.{numbered_more}
use Rattle.damon_live.proofs.alone.work_all.Goals as goal

pub loop-job-preserved : goal.loop-job-preserved
loop-job-preserved g c =
    let i = c.loop-job.invariant in
    let job = c.in-Some.job in
    let pushed = c.push_reserved.ensures in
    let less : into_iter_len c.loop-job.job-iterator ≡ into_iter_len c.next.new.self + 1 = search rules in
    let first : job.worker ≡ vec_len c.loop-job.made + 0 = (let h = i.3 0 job in grind rules) in
    let number : c.work.result.worker ≡ length c.loop-job.made.items = c.work.ensures ∙ omega (arith, first) in (
      omega (arith, pushed.len, i.0, less),
      omega (arith, pushed.capacity, i.1),
      subst (AreNumbered (λ d. d.worker)) (sym pushed.items) (numbered_more (λ d. d.worker) c.loop-job.made.items c.work.result i.2 number),
      λ k d here. (let h = i.3 (k + 1) d in let is : (slice_index_or (into_iter_items c.next.new.self) k d).worker ≡ vec_len c.loop-job.made + (k + 1) = grind rules in let same : vec_len c.loop-job.made + (k + 1) ≡ vec_len c.push_reserved.new.self + k = omega (arith, pushed.len) in is ∙ same),
    )
