use Rattle.std.proofs.Common.{◌≡◌, ◌<◌, length, map, ap, subst, sym, ◌∙◌}
use Rattle.damon_core.specs.Event.{load}
use Rattle.damon_core.specs.State.{row_count}
use Rattle.damon_core.specs.Makes.{Makes}
use Rattle.damon_core.specs.Report.{report_value}
use Rattle.damon_core.specs.Stands.{MonitorView, Stands}
use Rattle.damon_core.proofs.Shown.{after_all_loads, shown}
use Rattle.damon_core.proofs.Running.{all_loads_make}
use Rattle.damon_core.proofs.monitor.Monitor.loaded_all.Goals as goal

pub returns-clause-events : goal.returns-clause-events
returns-clause-events c =
    let i = c.self.inside in
    let s = c.deref_mut.result.now in
    let at = c.deref_mut.ensures.value in
    let view = ap (λ x. shown i.version i.space i.attrs x i.clock i.totals (report_value i.report.value) i.engine.value.slots) at ∙ c.self.view_is in
    let m = c.args.self.now in
    let hits = c.args.hits.now in
    let is : shown i.version i.space i.attrs c.load_all.new.self i.clock i.totals (report_value i.report.value) i.engine.value.slots ≡ after_all_loads hits m =
    ap (λ x. shown i.version i.space i.attrs x i.clock i.totals (report_value i.report.value) i.engine.value.slots) c.load_all.ensures.loaded ∙ ap (after_all_loads hits) view in
    let some = subst (λ (x : MonitorView). 0 < row_count x.core) view c.load_all.ensures.some in
    let bits = subst (λ (x : MonitorView). length x.bits ≡ row_count x.core) view c.load_all.ensures.each in
    subst (λ x. Makes Stands m x (map (λ hit. load hit) hits)) (sym is) (all_loads_make m hits c.requires.armed some c.requires.each bits)
