use Rattle.std.proofs.Common.{◌≡◌, ◌<◌, ap, subst, sym, ◌∙◌}
use Rattle.damon_core.specs.State.{row_count}
use Rattle.damon_core.specs.Event.{clear_index}
use Rattle.damon_core.specs.Several.{clears}
use Rattle.damon_core.specs.Makes.{Makes}
use Rattle.damon_core.specs.Report.{report_value}
use Rattle.damon_core.specs.Stands.{MonitorView, Stands}
use Rattle.damon_core.proofs.Shown.{after_clears, shown}
use Rattle.damon_core.proofs.Running.{clears_make}
use Rattle.damon_core.proofs.monitor.Monitor.cleared_next.Goals as goal

pub returns-clause-events : goal.returns-clause-events
returns-clause-events c =
    let i = c.self.inside in
    let s = c.deref_mut.result.now in
    let at = c.deref_mut.ensures.value in
    let view = ap (λ x. shown i.version i.space i.attrs x i.clock i.totals (report_value i.report.value) i.engine.value.slots) at ∙ c.self.view_is in
    let m = c.args.self.now in
    let n = c.args.count in
    let is : shown i.version i.space i.attrs c.clear.new.self i.clock i.totals (report_value i.report.value) i.engine.value.slots ≡ after_clears n m =
    ap (λ x. shown i.version i.space i.attrs x i.clock i.totals (report_value i.report.value) i.engine.value.slots) c.clear.ensures.cleared ∙ ap (after_clears n) view in
    let some = subst (λ (x : MonitorView). clear_index x.core.phase < row_count x.core) view c.clear.ensures.some in
    subst (λ x. Makes Stands m x (clears n)) (sym is) (clears_make m n c.requires.phase some c.requires.within)
