use Rattle.std.proofs.Common.{◌≡◌, ℕ, ◌+◌, [], length, sym, ap, ◌∙◌, subst, arith}
use Rattle.std.proofs.lemmas.List.{length-map}
use Rattle.damon_types.specs.Listed.{Listed}
use Rattle.page_words.specs.Seats.{MonitorSeatView, TouchSeatView}
use Rattle.damon_control.specs.Live.{LiveValue}
use Rattle.damon_live.specs.Work.{AreNumbered, trace_of}
use Rattle.damon_live.proofs.Working.{numbered_more}
use Rattle.damon_live.proofs.jobs.split_all.Goals as goal

pub make_job-requires-clause-seat : goal.make_job-requires-clause-seat
make_job-requires-clause-seat g c =
    let worker : ℕ = c.loop-worker.worker in
    let fresh : MonitorSeatView → TouchSeatView = λ s. record { table = s.table; worker = worker; touches = [] } in
    c.split-touch.ensures.touch ∙ ap fresh c.loop-worker.invariant.0

pub make_job-requires-clause-some : goal.make_job-requires-clause-some
make_job-requires-clause-some g c =
    omega (arith, c.len-workers.ensures, length-map c.args.script.now.workers.list (λ (t : Listed ℕ). t.list), ap (λ (x : LiveValue). length x.workers) c.requires.said)

pub make_job-requires-clause-room : goal.make_job-requires-clause-room
make_job-requires-clause-room g c =
    omega (arith, c.in_ok-receipts.ensures.room, ap (λ (x : LiveValue). length (trace_of x c.loop-worker.worker)) c.requires.said)

pub loop-worker-preserved : goal.loop-worker-preserved
loop-worker-preserved g c =
    let i = c.loop-worker.invariant in
    let pushed = c.push_reserved.ensures in
    let number : c.make_job.result.worker ≡ length c.loop-worker.jobs.items = c.make_job.ensures ∙ omega (arith, i.1) in
    (c.split-touch.ensures.seat ∙ ap (λ (s : MonitorSeatView). record s { out = s.out + 1 }) i.0, omega (arith, pushed.len, i.1), omega (arith, pushed.capacity, i.2), subst (AreNumbered (λ j. j.worker)) (sym pushed.items) (numbered_more (λ j. j.worker) c.loop-worker.jobs.items c.make_job.result i.3 number))
