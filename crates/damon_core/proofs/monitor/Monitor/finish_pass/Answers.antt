use Rattle.std.proofs.Common.{◌≡◌, inr, [], ◌∷◌, ◌+◌, ◌^◌, ◌<◌, Bool, length, refl, ap, sym, subst, ◌∙◌, arith}
use Rattle.std.specs.Prelude.{count_by}
use Rattle.std.proofs.lemmas.List.Sums.{count_by-le-length}
use Rattle.live_commit.specs.declared.phase.Phase.{Phase}
use Rattle.live_commit.specs.declared.phase.Phase.TheVariants.{Checking}
use Rattle.region_list.specs.Regions.{RegionList}
use Rattle.sampler.specs.Counted.{raised}
use Rattle.damon_core.specs.State.{row_count}
use Rattle.damon_core.specs.Event.{IsObserving, observe}
use Rattle.damon_core.specs.After.{phase_after_pass}
use Rattle.damon_core.specs.Makes.{Makes}
use Rattle.damon_core.specs.Kept.{IsMonitor, SamplingView, SinceFew}
use Rattle.damon_core.specs.Report.{report_value}
use Rattle.damon_core.specs.Stands.{MonitorView, Stands}
use Rattle.damon_core.specs.declared.clock.Clock.{Clock}
use Rattle.damon_core.proofs.Shown.{ended, shown}
use Rattle.damon_core.proofs.RowFacts.{length-raised, counts-raised}
use Rattle.damon_core.proofs.Between.{since-phase_after_pass}
use Rattle.damon_core.proofs.SlotFacts.{serving_passed}
use Rattle.damon_core.proofs.Standing.{observe_makes}
use Rattle.damon_core.proofs.monitor.Monitor.finish_pass.Goals as goal

abbrev clock_then : Clock → Clock
clock_then k = record { ticks = k.ticks + 1; since = k.since + 1 }

-- what is sampled after the pass
abbrev sampled_then : SamplingView → Phase → SamplingView
sampled_then s next = record s { regions = record s.regions { rows = raised s.bits s.regions.rows }; phase = next }

next : (c : goal.After-add) → c.next_phase-next.result ≡ phase_after_pass (c.self.inside.clock.since + 1) c.self.inside.attrs.aggr
next c = c.next_phase-next.ensures.phase ∙ ap (λ (k : Clock). phase_after_pass k.since c.self.inside.attrs.aggr) c.tick.ensures

sampled : (c : goal.After-add) → c.finish-hits.new.self ≡ sampled_then c.deref_mut-sampling.result.now (phase_after_pass (c.self.inside.clock.since + 1) c.self.inside.attrs.aggr)
sampled c = c.finish-hits.ensures.counted ∙ ap (sampled_then c.deref_mut-sampling.result.now) (next c)

rows_same : (c : goal.After-add) → c.len.result ≡ length c.deref_mut-sampling.result.now.regions.rows
rows_same c =
    let s = c.deref_mut-sampling.result.now in
    c.len.ensures.len
    ∙ ap (λ (r : RegionList). length r.rows) c.regions.ensures.regions
    ∙ ap (λ (x : SamplingView). length x.regions.rows) c.finish-hits.ensures.counted
    ∙ length-raised s.bits s.regions.rows

totals : (c : goal.After-add) → c.add.new.self ≡ record { checks = c.self.inside.totals.checks + length c.deref_mut-sampling.result.now.regions.rows; hits = c.self.inside.totals.hits + count_by (λ hit. hit) c.deref_mut-sampling.result.now.bits }
totals c =
    let t = c.self.inside.totals in
    c.add.ensures
    ∙ ap (λ n. record { checks = t.checks + n; hits = t.hits + c.finish-hits.result }) (rows_same c)
    ∙ ap (λ n. record { checks = t.checks + length c.deref_mut-sampling.result.now.regions.rows; hits = t.hits + n }) c.finish-hits.ensures.hits

pub invariant_of-self : goal.invariant_of-self
invariant_of-self c =
    let i = c.self.inside in
    let s = c.deref_mut-sampling.result.now in
    let at = c.deref_mut-sampling.ensures.value in
    let view = ap (λ x. shown i.version i.space i.attrs x i.clock i.totals (report_value i.report.value) i.engine.value.slots) at ∙ c.self.view_is in
    let kept = subst (λ x. IsMonitor i.space i.attrs x i.clock i.totals i.report.value i.engine.value) (sym at) c.self.invariant in
    let v = kept in
    let checking : s.phase ≡ Checking (length s.regions.rows) =
    ap (λ (m : MonitorView). m.core.phase) view ∙ c.requires.phase ∙ ap (λ (m : MonitorView). Checking (row_count m.core)) (sym view) in
    let since = subst (λ (ph : Phase). SinceFew ph i.clock.since) checking v.since_few in
    let same = rows_same c in
    let cap = ap (λ (r : RegionList). r.cap) c.regions.ensures.regions ∙ ap (λ (x : SamplingView). x.regions.cap) c.finish-hits.ensures.counted in
    let hits = count_by-le-length (λ (hit : Bool). hit) s.bits in
    let then = sampled_then s (phase_after_pass (i.clock.since + 1) i.attrs.aggr) in
    subst (λ x. IsMonitor i.space i.attrs x c.tick.new.self c.add.new.self i.report.value i.engine.value) (sym (sampled c))
    (subst (λ x. IsMonitor i.space i.attrs then x c.add.new.self i.report.value i.engine.value) (sym c.tick.ensures)
    (subst (λ x. IsMonitor i.space i.attrs then (clock_then i.clock) x i.report.value i.engine.value) (sym (totals c)) (record {
      attrs_sound = v.attrs_sound;
      max = v.max;
      cap_few = v.cap_few;
      ranges_in = v.ranges_in;
      picks_in = v.picks_in;
      counts = counts-raised i.clock.since s.bits s.regions.rows v.counts;
      since_few = since-phase_after_pass (i.clock.since + 1) i.attrs.aggr (omega arith) v.attrs_sound.aggr_most (omega arith);
      checks_few = omega (arith, v.checks_few, same, c.len.ensures.few, c.len.ensures.most, cap, v.cap_few);
      hits_few = omega (arith, v.hits_few, hits, c.finish-hits.ensures.each, same, c.len.ensures.few, c.len.ensures.most, cap, v.cap_few);
      report_room = v.report_room;
      applied_room = v.applied_room;
      report_in = v.report_in;
      runs_in = v.runs_in;
      engine_room = v.engine_room;
      serving = serving_passed i.clock i.engine.value.slots (subst (λ (m : MonitorView). m.core.ticks < 2 ^ 40) (sym view) c.requires.ticks) v.serving;
    })))

pub returns-clause-event : goal.returns-clause-event
returns-clause-event c =
    let i = c.self.inside in
    let s = c.deref_mut-sampling.result.now in
    let at = c.deref_mut-sampling.ensures.value in
    let view = ap (λ x. shown i.version i.space i.attrs x i.clock i.totals (report_value i.report.value) i.engine.value.slots) at ∙ c.self.view_is in
    let m = c.args.self.now in
    let is : shown i.version i.space i.attrs c.finish-hits.new.self c.tick.new.self c.add.new.self (report_value i.report.value) i.engine.value.slots ≡ ended m.core.phase m =
    ap (λ x. shown i.version i.space i.attrs x c.tick.new.self c.add.new.self (report_value i.report.value) i.engine.value.slots) (sampled c)
    ∙ ap (λ x. shown i.version i.space i.attrs (sampled_then s (phase_after_pass (i.clock.since + 1) i.attrs.aggr)) x c.add.new.self (report_value i.report.value) i.engine.value.slots) c.tick.ensures
    ∙ ap (λ x. shown i.version i.space i.attrs (sampled_then s (phase_after_pass (i.clock.since + 1) i.attrs.aggr)) (clock_then i.clock) x (report_value i.report.value) i.engine.value.slots) (totals c)
    ∙ ap (λ (x : MonitorView). ended (Checking (row_count x.core)) x) view
    ∙ ap (λ (ph : Phase). ended ph m) (sym c.requires.phase) in
    let fits : IsObserving m.core.phase (row_count m.core) = subst (λ (ph : Phase). IsObserving ph (row_count m.core)) (sym c.requires.phase) refl in
    let bits = subst (λ (x : MonitorView). length x.bits ≡ row_count x.core) view c.finish-hits.ensures.each in
    subst (λ x. Makes Stands m x (observe ∷ [])) (sym is) (observe_makes m fits (inr bits))

pub returns-clause-counts : goal.returns-clause-counts
returns-clause-counts c =
    let i = c.self.inside in
    let s = c.deref_mut-sampling.result.now in
    let at = c.deref_mut-sampling.ensures.value in
    let view = ap (λ x. shown i.version i.space i.attrs x i.clock i.totals (report_value i.report.value) i.engine.value.slots) at ∙ c.self.view_is in
    ap (λ x. shown i.version i.space i.attrs x c.tick.new.self c.add.new.self (report_value i.report.value) i.engine.value.slots) (sampled c)
    ∙ ap (λ x. shown i.version i.space i.attrs (sampled_then s (phase_after_pass (i.clock.since + 1) i.attrs.aggr)) x c.add.new.self (report_value i.report.value) i.engine.value.slots) c.tick.ensures
    ∙ ap (λ x. shown i.version i.space i.attrs (sampled_then s (phase_after_pass (i.clock.since + 1) i.attrs.aggr)) (clock_then i.clock) x (report_value i.report.value) i.engine.value.slots) (totals c)
    ∙ ap (λ (x : MonitorView). ended (Checking (row_count x.core)) x) view
