use Rattle.std.proofs.Common.{◌≡◌, suc, ◌-◌, length, ap, subst, sym, ◌∙◌, arith}
use Rattle.sampler.specs.Loaded.{next_picks}
use Rattle.damon_core.specs.State.{row_count}
use Rattle.damon_core.specs.Event.{load_index}
use Rattle.damon_core.specs.Several.{loads}
use Rattle.damon_core.specs.Makes.{Makes}
use Rattle.damon_core.specs.Report.{report_value}
use Rattle.damon_core.specs.Stands.{MonitorView, Stands}
use Rattle.damon_core.proofs.Shown.{after_loads, shown}
use Rattle.damon_core.proofs.Running.{loads_make}
use Rattle.damon_core.proofs.monitor.Monitor.loaded_next.Goals as goal

pub returns-clause-events : goal.returns-clause-events
returns-clause-events g c =
    let i = c.self.inside in
    let s = c.deref_mut.result.now in
    let at = c.deref_mut.ensures.value in
    let view = ap (λ x. shown i.version i.space i.attrs x i.clock i.totals (report_value i.report.value) i.engine.value.slots) at ∙ c.self.view_is in
    let m = c.args.self.now in
    let marks = g.M.Marks.marks_of c.args.marks in
    let n = c.args.count in
    let is : shown i.version i.space i.attrs c.load_next.new.self i.clock i.totals (report_value i.report.value) i.engine.value.slots ≡ after_loads marks n m =
    ap (λ x. shown i.version i.space i.attrs x i.clock i.totals (report_value i.report.value) i.engine.value.slots) c.load_next.ensures.loaded ∙ ap (after_loads marks n) view in
    let count : suc (n - 1) ≡ n = omega (arith, c.requires.some) in
    let picks = subst (λ (x : MonitorView). length x.core.picks ≡ row_count x.core) view c.load_next.ensures.picks in
    let bits = subst (λ (x : MonitorView). length x.bits ≡ row_count x.core) view c.load_next.ensures.each in
    let made = loads_make m marks (n - 1) c.requires.phase (omega (arith, count, c.requires.within)) picks bits in
    subst (λ x. Makes Stands m x (loads marks (next_picks m.core.picks (load_index m.core.phase) n))) (sym is)
    (subst (λ k. Makes Stands m (after_loads marks k m) (loads marks (next_picks m.core.picks (load_index m.core.phase) k))) count made)
