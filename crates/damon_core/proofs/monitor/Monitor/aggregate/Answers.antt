use Rattle.std.proofs.Common.{◌≡◌, ◌+◌, ◌-◌, ◌≤◌, ◌<◌, ℕ, List, [], ◌∷◌, max, ◌/◌, ap, sym, subst, ◌∙◌, arith}
use Rattle.std.specs.List.{AllByRecursion}
use Rattle.std.proofs.lemmas.List.Elements.{recursion_from_All}
use Rattle.damon_types.specs.declared.row.Row.{Row}
use Rattle.damon_types.specs.Ranges.{page_total}
use Rattle.damon_types.specs.Space.{pages_of}
use Rattle.damon_types.specs.Within.{AreWithin}
use Rattle.live_commit.specs.declared.phase.Phase.{Phase}
use Rattle.live_commit.specs.declared.phase.Phase.TheVariants.{Due}
use Rattle.region_list.specs.Regions.{RegionList, IsRegionList}
use Rattle.region_list.proofs.Lemmas.{tiles}
use Rattle.scheme_engine.specs.Engine.{EngineValue}
use Rattle.scheme_engine.specs.Kept.{AreTiled, IsRunIn}
use Rattle.scheme_engine.specs.Served.{Served, slots_served}
use Rattle.scheme_engine.proofs.Lemmas.{counts_fit, served_best, slots_begun, slots_bounded, slots_space, slots_windows}
use Rattle.damon_core.specs.Aggregate.{merge_limit, merged_regions}
use Rattle.damon_core.specs.Kept.{IsMonitor, IsServing, RowsLieIn, SamplingView, SinceFew}
use Rattle.damon_core.specs.declared.report.Report.{Report}
use Rattle.damon_core.specs.State.{Core}
use Rattle.damon_core.specs.Event.{aggregate}
use Rattle.damon_core.specs.Makes.{Makes}
use Rattle.damon_core.specs.Report.{report_value}
use Rattle.damon_core.specs.Stands.{MonitorView, Stands}
use Rattle.damon_core.specs.Pass.{IsBetween}
use Rattle.damon_core.proofs.Adapting.{merged_is, tiled_by_len}
use Rattle.damon_core.proofs.RowFacts.{rows_in}
use Rattle.damon_core.proofs.Shown.{after_aggregate, aggregated_view, shown, with_kept}
use Rattle.damon_core.proofs.SlotFacts.{serving_served}
use Rattle.damon_core.proofs.Standing.{aggregate_makes}
use Rattle.damon_core.proofs.monitor.Monitor.aggregate.Goals as goal

pub serve-requires : goal.serve-requires
serve-requires c =
    let i = c.self.inside in
    let s = c.deref_mut-sampling.result.now in
    let at = c.deref_mut-sampling.ensures.value in
    let e = c.deref_mut-engine.result.now in
    let e_at = c.deref_mut-engine.ensures.value in
    let b = c.deref_mut-report.result.now in
    let b_at = c.deref_mut-report.ensures.value in
    let view = ap (λ x. shown i.version i.space i.attrs x i.clock i.totals (report_value b) e.slots) at ∙ ap (λ x. shown i.version i.space i.attrs i.sampling.value i.clock i.totals (report_value x) e.slots) b_at ∙ ap (λ x. shown i.version i.space i.attrs i.sampling.value i.clock i.totals (report_value i.report.value) x.slots) e_at ∙ c.self.view_is in
    let kept = subst (λ x. IsMonitor i.space i.attrs s i.clock i.totals b x) (sym e_at) (subst (λ x. IsMonitor i.space i.attrs s i.clock i.totals x i.engine.value) (sym b_at) (subst (λ x. IsMonitor i.space i.attrs x i.clock i.totals i.report.value i.engine.value) (sym at) c.self.invariant)) in
    let v = kept in
    let now = c.merge-threshold.ensures.merged in
    let r = c.merge-threshold.new.self.regions in
    let len = c.len-merged.ensures in
    let same_cap : r.cap ≡ s.regions.cap = ap (λ (s : SamplingView). s.regions.cap) now in
    let within = subst (AreWithin i.space) (sym (ap (λ (s : SamplingView). s.regions.ranges) now)) v.ranges_in in
    let tiled = subst AreTiled c.regions-2.ensures.regions (tiled_by_len _ c.len-merged.result len.len len.few len.unit len.order len.tiling) in
    let due : s.phase ≡ Due = ap (λ (m : MonitorView). m.core.phase) view ∙ c.requires.due in
    let t : ℕ = i.clock.ticks - i.clock.since in
    let bounded = slots_bounded 0 i.attrs.aggr i.clock.ticks t i.space r e.slots tiled within c.targets-targets.ensures.sound v.serving.served in
    record {
      phase = subst IsBetween (sym (ap (λ (s : SamplingView). s.phase) now ∙ due)) tt;
      within = within;
      aggr = v.attrs_sound.aggr_some;
      engine = same_cap ∙ v.engine_room;
      room = same_cap ∙ v.applied_room;
      windows = (slots_begun i.clock.ticks i.clock.ticks e.slots (omega arith) v.serving.windows).1;
      fits = counts_fit (t + 1) (slots_served 0 i.space i.attrs.aggr i.clock.ticks r e.slots).slots (omega (arith, v.serving.ticks_few)) bounded;
    }

pub invariant_of-self : goal.invariant_of-self
invariant_of-self c =
    let i = c.self.inside in
    let s = c.deref_mut-sampling.result.now in
    let at = c.deref_mut-sampling.ensures.value in
    let e = c.deref_mut-engine.result.now in
    let e_at = c.deref_mut-engine.ensures.value in
    let b = c.deref_mut-report.result.now in
    let b_at = c.deref_mut-report.ensures.value in
    let view = ap (λ x. shown i.version i.space i.attrs x i.clock i.totals (report_value b) e.slots) at ∙ ap (λ x. shown i.version i.space i.attrs i.sampling.value i.clock i.totals (report_value x) e.slots) b_at ∙ ap (λ x. shown i.version i.space i.attrs i.sampling.value i.clock i.totals (report_value i.report.value) x.slots) e_at ∙ c.self.view_is in
    let kept = subst (λ x. IsMonitor i.space i.attrs s i.clock i.totals b x) (sym e_at) (subst (λ x. IsMonitor i.space i.attrs s i.clock i.totals x i.engine.value) (sym b_at) (subst (λ x. IsMonitor i.space i.attrs x i.clock i.totals i.report.value i.engine.value) (sym at) c.self.invariant)) in
    let v = kept in
    let old = c.merge-threshold.new.self in
    let now = c.merge-threshold.ensures.merged in
    let r = old.regions in
    let len = c.len-merged.ensures in
    let o : Served = slots_served 0 i.space i.attrs.aggr i.clock.ticks r e.slots in
    let next = c.serve.new.self.regions in
    let served = ap (λ (s : SamplingView). s.regions) c.serve.ensures.rows in
    let seen = c.regions-rows.ensures.regions in
    let same_cap : next.cap ≡ s.regions.cap = ap (λ (x : RegionList). x.cap) served ∙ ap (λ (s : SamplingView). s.regions.cap) now in
    let within = subst (AreWithin i.space) (sym (ap (λ (s : SamplingView). s.regions.ranges) now)) v.ranges_in in
    let ranges_in = subst (AreWithin i.space) (sym (ap (λ (x : RegionList). x.ranges) served)) within in
    let tiled = subst AreTiled c.regions-2.ensures.regions (tiled_by_len _ c.len-merged.result len.len len.few len.unit len.order len.tiling) in
    let kept = subst IsRegionList seen c.rows.ensures.kept in
    let rows = rows_in i.space next.ranges next.unit next.rows kept.unit ranges_in (tiles _ _ _ kept.unit kept.order kept.tiling) in
    let told = c.rows.ensures.rows ∙ ap (λ (x : RegionList). x.rows) seen in
    let t : ℕ = i.clock.ticks - i.clock.since in
    let bounded = slots_bounded 0 i.attrs.aggr i.clock.ticks t i.space r e.slots tiled within c.targets-targets.ensures.sound v.serving.served in
    let windows = slots_windows 0 i.attrs.aggr i.clock.ticks i.space r e.slots v.serving.windows in
    let due : s.phase ≡ Due = ap (λ (m : MonitorView). m.core.phase) view ∙ c.requires.due in
    let since = subst (λ (ph : Phase). SinceFew ph i.clock.since) due v.since_few in
    let runs = recursion_from_All (IsRunIn i.space) o.runs (slots_space 0 i.attrs.aggr i.clock.ticks i.space r e.slots tiled within) in
    let report : c.set.new.self ≡ record c.serve.new.report { tick = i.clock.ticks; threshold = c.merge-threshold.result; rows = record c.serve.new.report.rows { rows = c.rows.result.now.rows } } = c.set.ensures in
    subst (λ x. IsMonitor i.space i.attrs x (record { ticks = i.clock.ticks; since = 0 }) i.totals c.set.new.self c.serve.new.engine) (sym c.split.ensures.split) (record {
      attrs_sound = v.attrs_sound;
      max = ap (λ (x : RegionList). x.max) served ∙ ap (λ (s : SamplingView). s.regions.max) now ∙ v.max;
      cap_few = omega (arith, same_cap, v.cap_few);
      ranges_in = ranges_in;
      picks_in = subst (AllByRecursion (λ (p : ℕ). p < pages_of i.space)) (sym (ap (λ (s : SamplingView). s.picks) c.serve.ensures.rows ∙ ap (λ (s : SamplingView). s.picks) now)) v.picks_in;
      counts = subst (λ (s : SamplingView). AllByRecursion (λ q. q.count ≤ 0) s.regions.rows) c.split.ensures.split c.split.ensures.counts;
      since_few = omega arith;
      checks_few = v.checks_few;
      hits_few = v.hits_few;
      report_room = same_cap ∙ v.report_room ∙ sym (ap (λ (b : Report). b.rows.cap) report ∙ ap (λ (b : Report). b.rows.cap) c.serve.ensures.applied);
      applied_room = same_cap ∙ v.applied_room ∙ sym (ap (λ (b : Report). b.applied.cap) report ∙ ap (λ (b : Report). b.applied.cap) c.serve.ensures.applied);
      report_in = subst (λ (b : Report). RowsLieIn i.space b.rows.rows) (sym report) (subst (RowsLieIn i.space) (sym told) rows);
      runs_in = subst (AllByRecursion (IsRunIn i.space)) (sym (ap (λ (b : Report). b.applied.runs) report ∙ ap (λ (b : Report). b.applied.runs) c.serve.ensures.applied)) runs;
      engine_room = same_cap ∙ v.engine_room ∙ sym (ap (λ (e : EngineValue). e.cap) c.serve.ensures.slots);
      serving = subst (λ (e : EngineValue). IsServing (record { ticks = i.clock.ticks; since = 0 }) e.slots) (sym c.serve.ensures.slots) (serving_served i.clock o.slots since.0 v.serving.since_ticks v.serving.ticks_few windows bounded);
    })

-- the rows that schemes find tile their ranges
merged_are_tiled : (c : goal.After-self-4-1) → AreTiled (merged_regions c.args.self.now.core)
merged_are_tiled c =
    let i = c.self.inside in
    let s = c.deref_mut-sampling.result.now in
    let at = c.deref_mut-sampling.ensures.value in
    let e = c.deref_mut-engine.result.now in
    let e_at = c.deref_mut-engine.ensures.value in
    let b = c.deref_mut-report.result.now in
    let b_at = c.deref_mut-report.ensures.value in
    let view = ap (λ x. shown i.version i.space i.attrs x i.clock i.totals (report_value b) e.slots) at ∙ ap (λ x. shown i.version i.space i.attrs i.sampling.value i.clock i.totals (report_value x) e.slots) b_at ∙ ap (λ x. shown i.version i.space i.attrs i.sampling.value i.clock i.totals (report_value i.report.value) x.slots) e_at ∙ c.self.view_is in
    let core : Core = (shown i.version i.space i.attrs s i.clock i.totals (report_value b) e.slots).core in
    let len = c.len-merged.ensures in
    let limit : c.merge_limit-limit.result ≡ merge_limit core = c.merge_limit-limit.ensures ∙ ap (λ (x : RegionList). max x.unit (page_total x.ranges / i.attrs.min)) c.regions.ensures.regions in
    let merged = merged_is core c.merge-threshold.new.self.regions c.merge-threshold.result c.merge_limit-limit.result (ap (λ (s : SamplingView). s.regions) c.merge-threshold.ensures.merged) c.merge-threshold.ensures.threshold limit in
    let tiled = subst AreTiled (c.regions-2.ensures.regions ∙ merged) (tiled_by_len _ c.len-merged.result len.len len.few len.unit len.order len.tiling) in
    subst (λ (x : MonitorView). AreTiled (merged_regions x.core)) view tiled

pub returns-clause-best : goal.returns-clause-best
returns-clause-best c =
    let m = c.args.self.now in
    served_best 0 m.core.attrs.aggr m.core.ticks m.core.space (merged_regions m.core) m.slots (merged_are_tiled c)

pub returns-clause-event : goal.returns-clause-event
returns-clause-event c =
    let i = c.self.inside in
    let s = c.deref_mut-sampling.result.now in
    let at = c.deref_mut-sampling.ensures.value in
    let e = c.deref_mut-engine.result.now in
    let e_at = c.deref_mut-engine.ensures.value in
    let b = c.deref_mut-report.result.now in
    let b_at = c.deref_mut-report.ensures.value in
    let view = ap (λ x. shown i.version i.space i.attrs x i.clock i.totals (report_value b) e.slots) at ∙ ap (λ x. shown i.version i.space i.attrs i.sampling.value i.clock i.totals (report_value x) e.slots) b_at ∙ ap (λ x. shown i.version i.space i.attrs i.sampling.value i.clock i.totals (report_value i.report.value) x.slots) e_at ∙ c.self.view_is in
    let m = c.args.self.now in
    let ws = c.args.words.now in
    let core : Core = (shown i.version i.space i.attrs s i.clock i.totals (report_value b) e.slots).core in
    let limit : c.merge_limit-limit.result ≡ merge_limit core = c.merge_limit-limit.ensures ∙ ap (λ (x : RegionList). max x.unit (page_total x.ranges / i.attrs.min)) c.regions.ensures.regions in
    let merged = merged_is core c.merge-threshold.new.self.regions c.merge-threshold.result c.merge_limit-limit.result (ap (λ (s : SamplingView). s.regions) c.merge-threshold.ensures.merged) c.merge-threshold.ensures.threshold limit in
    let told = c.rows.ensures.rows ∙ ap (λ (x : RegionList). x.rows) c.regions-rows.ensures.regions in
    let after = aggregated_view i.version i.space i.attrs i.clock i.totals ws s c.merge-threshold.new.self c.serve.new.self c.split.new.self (report_value b) (report_value c.serve.new.report) (report_value c.set.new.self) e.slots c.serve.new.engine.slots c.merge-threshold.result
    (c.merge-threshold.ensures.merged ∙ ap (λ (r : RegionList). record s { regions = r }) (sym (ap (λ (s : SamplingView). s.regions) c.merge-threshold.ensures.merged) ∙ merged))
    c.serve.ensures.rows
    (ap (λ (e : EngineValue). e.slots) c.serve.ensures.slots)
    (ap report_value c.serve.ensures.applied)
    c.merge-threshold.ensures.threshold
    (ap report_value c.set.ensures ∙ ap (λ (rows : List Row). with_kept i.clock.ticks c.merge-threshold.result rows (report_value c.serve.new.report)) told)
    c.split.ensures.split in
    subst (λ (x : MonitorView). Makes Stands m x (aggregate ws ∷ [])) (sym (after ∙ ap (after_aggregate ws) view))
    (aggregate_makes m ws (merged_are_tiled c) c.requires.due c.requires.words)
