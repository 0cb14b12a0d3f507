use Rattle.std.proofs.Common.{◌≡◌, ℕ, ◌<◌, length, sym, ap, ◌∙◌, subst, arith}
use Rattle.std.specs.Prelude.{All, Some, slice_get}
use Rattle.std.proofs.lemmas.List.{length-map}
use Rattle.atomic_table.specs.Seated.{TableId}
use Rattle.damon_types.specs.Listed.{Listed}
use Rattle.damon_types.specs.Space.{pages_of}
use Rattle.damon_control.specs.Live.{LiveValue}
use Rattle.damon_control.specs.LiveView.{live_said}
use Rattle.damon_control.specs.declared.live.LiveScript.{LiveScript}
use Rattle.damon_live.specs.Work.{trace_of}
use Rattle.damon_live.proofs.Working.{trace_found, trace_within}
use Rattle.damon_live.proofs.work.work.Goals as goal

-- the trace of a worker, by the script that is shared
trace_is : (s : LiveScript) (v : LiveValue) (worker : ℕ) (t : Listed ℕ) → live_said s ≡ v → slice_get s.workers.list worker ≡ Some t → trace_of v worker ≡ t.list
trace_is s v worker t said here = ap (λ (x : LiveValue). trace_of x worker) (sym said) ∙ trace_found s.workers.list worker t here

pub get-trace-requires : goal.get-trace-requires
get-trace-requires g c = omega (arith, c.args.job.some, ap (λ (x : LiveValue). length x.workers) c.requires.said, length-map c.args.shared.now.script.now.workers.list (λ (t : Listed ℕ). t.list))

pub touch_all-requires-clause-pages : goal.touch_all-requires-clause-pages
touch_all-requires-clause-pages g c =
    let v = g.N.Named.script in
    let worker : ℕ = c.args.job.worker in
    let trace = c.get-trace.result.now in
    let is = trace_is c.args.shared.now.script.now v worker trace c.requires.said c.get-trace.ensures in
    let within = trace_within (pages_of v.setup.space) v.workers worker c.requires.pages c.args.job.some in
    let same : pages_of v.setup.space ≡ c.args.shared.now.words.now.words = sym c.requires.space ∙ sym (ap (λ (t : TableId). t.words) c.requires.table) in
    subst (λ n. All (λ p. p < n) trace.list) same (subst (All (λ p. p < pages_of v.setup.space)) is within)

pub touch_all-requires-clause-room : goal.touch_all-requires-clause-room
touch_all-requires-clause-room g c =
    let worker : ℕ = c.args.job.worker in
    let is = trace_is c.args.shared.now.script.now g.N.Named.script worker c.get-trace.result.now c.requires.said c.get-trace.ensures in
    omega (arith, c.args.job.room, ap length is)

pub make_done-requires-clause-whole : goal.make_done-requires-clause-whole
make_done-requires-clause-whole g c =
    let worker : ℕ = c.args.job.worker in
    let is = trace_is c.args.shared.now.script.now g.N.Named.script worker c.get-trace.result.now c.requires.said c.get-trace.ensures in
    c.touch_all.ensures.pages ∙ sym is
