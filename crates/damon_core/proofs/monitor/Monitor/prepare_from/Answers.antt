use Rattle.std.proofs.Common.{◌≡◌, length, ap, subst, ◌∙◌, sym}
use Rattle.region_list.proofs.Lemmas.{tiles}
use Rattle.live_commit.specs.declared.phase.Phase.TheVariants.{Idle}
use Rattle.sampler.specs.Draws.{drawn}
use Rattle.damon_core.specs.Kept.{SamplingView, IsMonitor}
use Rattle.damon_core.specs.Report.{report_value}
use Rattle.damon_core.specs.Stands.{MonitorView}
use Rattle.damon_core.specs.State.{row_count}
use Rattle.damon_core.proofs.Preparing.{monitor_prepared, prepare_is_made}
use Rattle.damon_core.proofs.Shown.{after_prepare, shown}
use Rattle.damon_core.proofs.monitor.Monitor.prepare_from.Goals as goal

pub invariant_of-self : goal.invariant_of-self
invariant_of-self g c =
    let i = c.self.inside in
    let s = c.deref_mut.result.now in
    let at = c.deref_mut.ensures.value in
    let view = ap (λ x. shown i.version i.space i.attrs x i.clock i.totals (report_value i.report.value) i.engine.value.slots) at ∙ c.self.view_is in
    let kept = subst (λ x. IsMonitor i.space i.attrs x i.clock i.totals i.report.value i.engine.value) (sym at) c.self.invariant in
    let idle : s.phase ≡ Idle = ap (λ (m : MonitorView). m.core.phase) view ∙ c.requires in
    let rows = c.prepare_from.ensures.kept in
    let ws = drawn (length s.regions.rows) (g.R.Rng.stream c.args.source.now) in
    monitor_prepared i.space i.attrs s c.prepare_from.new.self i.clock i.totals i.report.value i.engine.value ws kept idle rows.unit (tiles _ _ _ rows.unit rows.order rows.tiling) c.prepare_from.ensures.prepared

pub returns-clause-event : goal.returns-clause-event
returns-clause-event g c =
    let i = c.self.inside in
    let s = c.deref_mut.result.now in
    let at = c.deref_mut.ensures.value in
    let view = ap (λ x. shown i.version i.space i.attrs x i.clock i.totals (report_value i.report.value) i.engine.value.slots) at ∙ c.self.view_is in
    let m = c.args.self.now in
    let stream = g.R.Rng.stream c.args.source.now in
    let show = λ (x : SamplingView). shown i.version i.space i.attrs x i.clock i.totals (report_value i.report.value) i.engine.value.slots in
    let words = λ (x : MonitorView). drawn (row_count x.core) stream in
    let each = subst (λ (x : MonitorView). length (drawn (row_count x.core) stream) ≡ row_count x.core) view c.prepare_from.ensures.each in
    let is : show c.prepare_from.new.self ≡ after_prepare (words m) m =
    ap show c.prepare_from.ensures.prepared ∙ ap (λ (x : MonitorView). after_prepare (drawn (row_count x.core) stream) x) view in
    prepare_is_made m (show c.prepare_from.new.self) (words m) c.requires each is
