use Rattle.std.proofs.Common.{◌≡◌, ap, subst, ◌∙◌, sym}
use Rattle.region_list.proofs.Lemmas.{tiles}
use Rattle.live_commit.specs.declared.phase.Phase.TheVariants.{Idle}
use Rattle.damon_core.specs.Kept.{SamplingView, IsMonitor}
use Rattle.damon_core.specs.Report.{report_value}
use Rattle.damon_core.specs.Stands.{MonitorView}
use Rattle.damon_core.proofs.Preparing.{monitor_prepared, prepare_is_made}
use Rattle.damon_core.proofs.Shown.{after_prepare, shown}
use Rattle.damon_core.proofs.monitor.Monitor.prepare.Goals as goal

pub invariant_of-self : goal.invariant_of-self
invariant_of-self c =
    let i = c.self.inside in
    let s = c.deref_mut.result.now in
    let at = c.deref_mut.ensures.value in
    let view = ap (λ x. shown i.version i.space i.attrs x i.clock i.totals (report_value i.report.value) i.engine.value.slots) at ∙ c.self.view_is in
    let kept = subst (λ x. IsMonitor i.space i.attrs x i.clock i.totals i.report.value i.engine.value) (sym at) c.self.invariant in
    let idle : s.phase ≡ Idle = ap (λ (m : MonitorView). m.core.phase) view ∙ c.requires.idle in
    let rows = c.prepare.ensures.kept in
    monitor_prepared i.space i.attrs s c.prepare.new.self i.clock i.totals i.report.value i.engine.value c.args.words.now kept idle rows.unit (tiles _ _ _ rows.unit rows.order rows.tiling) c.prepare.ensures.prepared

pub returns-clause-event : goal.returns-clause-event
returns-clause-event c =
    let i = c.self.inside in
    let s = c.deref_mut.result.now in
    let at = c.deref_mut.ensures.value in
    let view = ap (λ x. shown i.version i.space i.attrs x i.clock i.totals (report_value i.report.value) i.engine.value.slots) at ∙ c.self.view_is in
    let m = c.args.self.now in
    let ws = c.args.words.now in
    let show = λ (x : SamplingView). shown i.version i.space i.attrs x i.clock i.totals (report_value i.report.value) i.engine.value.slots in
    let is : show c.prepare.new.self ≡ after_prepare ws m = ap show c.prepare.ensures.prepared ∙ ap (after_prepare ws) view in
    prepare_is_made m (show c.prepare.new.self) ws c.requires.idle c.requires.words is
