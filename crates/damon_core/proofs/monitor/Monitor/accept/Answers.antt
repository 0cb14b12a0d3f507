use Rattle.std.proofs.Common.{◌≡◌, ◌≤◌, ◌<◌, Ok, ap, subst, sym, ◌∙◌, arith}
use Rattle.std.specs.List.{AllByRecursion}
use Rattle.std.specs.Option.{unwrap_or}
use Rattle.damon_types.specs.declared.attrs.Attrs.{Attrs}
use Rattle.damon_types.specs.Attrs.{IsAttrs}
use Rattle.damon_types.specs.Space.{pages_of}
use Rattle.region_list.specs.Regions.{RegionList}
use Rattle.live_commit.specs.Commit.{CommitValue, commit_value}
use Rattle.live_commit.proofs.Lemmas.{commit_accepted}
use Rattle.damon_core.specs.Commit.{check_of, phase_after_commit, regions_after, view_of}
use Rattle.damon_core.specs.Kept.{CanCommit, IsServing, SamplingView, SinceFew, IsMonitor}
use Rattle.damon_core.specs.State.{Core}
use Rattle.damon_core.specs.Report.{report_value}
use Rattle.damon_core.specs.Stands.{MonitorView}
use Rattle.damon_core.proofs.Committing.{commit_facts, new_cap, new_counts, new_max, since_kept}
use Rattle.damon_core.proofs.Shown.{shown}
use Rattle.damon_core.proofs.SlotFacts.{serving_committed}
use Rattle.scheme_engine.specs.Engine.{EngineValue}
use Rattle.damon_core.proofs.monitor.Monitor.accept.Goals as goal

pub commit-void-requires-clause-can : goal.commit-void-requires-clause-can
commit-void-requires-clause-can c =
    let i = c.self.inside in
    let s = c.deref_mut-sampling.result.now in
    let at = c.deref_mut-sampling.ensures.value in
    let view = ap (λ x. shown i.version i.space i.attrs x i.clock i.totals (report_value i.report.value) i.engine.value.slots) at ∙ c.self.view_is in
    let kept = subst (λ x. IsMonitor i.space i.attrs x i.clock i.totals i.report.value i.engine.value) (sym at) c.self.invariant in
    let core : Core = (shown i.version i.space i.attrs s i.clock i.totals (report_value i.report.value) i.engine.value.slots).core in
    let v : CommitValue = commit_value c.args.commit.now in
    let ok = subst (λ (m : MonitorView). check_of v m.core ≡ Ok tt) (sym view) c.requires in
    let most = subst (λ (m : MonitorView). m.core.attrs.max ≤ m.core.regions.cap) (sym view) c.attrs.ensures.max in
    let facts = commit_facts core v ok kept.attrs_sound most in
    let new : c.unwrap_or-attrs.result ≡ unwrap_or v.attrs i.attrs = c.unwrap_or-attrs.ensures ∙ ap (unwrap_or v.attrs) (c.attrs.ensures.attrs ∙ ap (λ (m : MonitorView). m.core.attrs) (sym view)) in
    subst (λ (a : Attrs). CanCommit i.space s.regions v.ranges a.max) (sym new) facts.can

pub change_slots-requires-clause-cost : goal.change_slots-requires-clause-cost
change_slots-requires-clause-cost c part some =
    let i = c.self.inside in
    let s = c.deref_mut-sampling.result.now in
    let at = c.deref_mut-sampling.ensures.value in
    let e = c.deref_mut.result.now in
    let e_at = c.deref_mut.ensures.value in
    let view = ap (λ x. shown i.version i.space i.attrs x i.clock i.totals (report_value i.report.value) e.slots) at ∙ ap (λ x. shown i.version i.space i.attrs i.sampling.value i.clock i.totals (report_value i.report.value) x.slots) e_at ∙ c.self.view_is in
    let core : Core = (shown i.version i.space i.attrs s i.clock i.totals (report_value i.report.value) e.slots).core in
    let v : CommitValue = commit_value c.args.commit.now in
    let ok = subst (λ (m : MonitorView). check_of v m.core ≡ Ok tt) (sym view) c.requires in
    ((commit_accepted core.space (view_of core) v ok).cost part some).1

pub invariant_of-self : goal.invariant_of-self
invariant_of-self c =
    let i = c.self.inside in
    let s = c.deref_mut-sampling.result.now in
    let at = c.deref_mut-sampling.ensures.value in
    let e = c.deref_mut.result.now in
    let e_at = c.deref_mut.ensures.value in
    let view = ap (λ x. shown i.version i.space i.attrs x i.clock i.totals (report_value i.report.value) e.slots) at ∙ ap (λ x. shown i.version i.space i.attrs i.sampling.value i.clock i.totals (report_value i.report.value) x.slots) e_at ∙ c.self.view_is in
    let kept = subst (λ x. IsMonitor i.space i.attrs s i.clock i.totals i.report.value x) (sym e_at) (subst (λ x. IsMonitor i.space i.attrs x i.clock i.totals i.report.value i.engine.value) (sym at) c.self.invariant) in
    let inv = kept in
    let core : Core = (shown i.version i.space i.attrs s i.clock i.totals (report_value i.report.value) e.slots).core in
    let v : CommitValue = commit_value c.args.commit.now in
    let ok = subst (λ (m : MonitorView). check_of v m.core ≡ Ok tt) (sym view) c.requires in
    let most = subst (λ (m : MonitorView). m.core.attrs.max ≤ m.core.regions.cap) (sym view) c.attrs.ensures.max in
    let facts = commit_facts core v ok inv.attrs_sound most in
    let new : c.unwrap_or-attrs.result ≡ unwrap_or v.attrs i.attrs = c.unwrap_or-attrs.ensures ∙ ap (unwrap_or v.attrs) (c.attrs.ensures.attrs ∙ ap (λ (m : MonitorView). m.core.attrs) (sym view)) in
    let old = s.regions in
    let now = c.unwrap_or-attrs.result.max in
    let regions = regions_after i.space v.ranges now old in
    let made : c.commit-void.new.self ≡ record s { regions = regions; phase = phase_after_commit s.phase old.rows regions.rows } = c.commit-void.ensures.committed in
    let same = ap (λ (s : SamplingView). s.regions) made in
    let cap = ap (λ (r : RegionList). r.cap) same ∙ new_cap i.space v.ranges now old in
    record {
      attrs_sound = subst IsAttrs (sym new) facts.attrs;
      max = ap (λ (r : RegionList). r.max) same ∙ new_max i.space v.ranges now old;
      cap_few = omega (arith, inv.cap_few, cap);
      ranges_in = c.commit-void.ensures.within inv.ranges_in;
      picks_in = subst (λ (s : SamplingView). AllByRecursion (λ p. p < pages_of i.space) s.picks) (sym made) inv.picks_in;
      counts = subst (λ (r : RegionList). AllByRecursion (λ q. q.count ≤ i.clock.since) r.rows) (sym same) (new_counts i.space v.ranges now i.clock.since old inv.counts);
      since_few = subst (λ (s : SamplingView). SinceFew s.phase i.clock.since) (sym made) (since_kept s.phase old.rows regions.rows i.clock.since facts.allows inv.since_few);
      checks_few = inv.checks_few;
      hits_few = inv.hits_few;
      report_room = omega (arith, inv.report_room, cap);
      applied_room = omega (arith, inv.applied_room, cap);
      report_in = inv.report_in;
      runs_in = inv.runs_in;
      engine_room = omega (arith, inv.engine_room, cap, ap (λ (e : EngineValue). e.cap) c.change_slots.ensures);
      serving = subst (λ (e : EngineValue). IsServing i.clock e.slots) (sym c.change_slots.ensures) (serving_committed i.clock v e.slots inv.serving);
    }
