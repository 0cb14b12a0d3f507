use Rattle.std.proofs.Common.{◌≡◌, ◌<◌, [], ◌∷◌, length, ap, subst, sym, ◌∙◌, arith}
use Rattle.damon_core.specs.Event.{load, load_index}
use Rattle.damon_core.specs.Makes.{Makes}
use Rattle.damon_core.specs.Report.{report_value}
use Rattle.damon_core.specs.Stands.{MonitorView, Stands}
use Rattle.damon_core.proofs.Shown.{after_load, shown}
use Rattle.damon_core.proofs.Running.{one_load}
use Rattle.damon_core.proofs.monitor.Monitor.loaded.Goals as goal

pub returns-clause-event : goal.returns-clause-event
returns-clause-event c =
    let i = c.self.inside in
    let s = c.deref_mut.result.now in
    let at = c.deref_mut.ensures.value in
    let view = ap (λ x. shown i.version i.space i.attrs x i.clock i.totals (report_value i.report.value) i.engine.value.slots) at ∙ c.self.view_is in
    let m = c.args.self.now in
    let h = c.args.hit in
    let is : shown i.version i.space i.attrs c.load.new.self i.clock i.totals (report_value i.report.value) i.engine.value.slots ≡ after_load h m =
    ap (λ x. shown i.version i.space i.attrs x i.clock i.totals (report_value i.report.value) i.engine.value.slots) c.load.ensures.loaded ∙ ap (after_load h) view in
    let here = subst (λ (x : MonitorView). load_index x.core.phase < length x.bits) view (omega (arith, c.load.ensures.here, c.load.ensures.each)) in
    subst (λ x. Makes Stands m x (load h ∷ [])) (sym is) (one_load m h c.requires here)
