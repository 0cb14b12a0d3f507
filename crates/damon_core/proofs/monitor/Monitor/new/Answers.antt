use Rattle.std.proofs.Common.{◌≡◌, ◌≤◌, ◌<◌, false, List, [], length, refl, ap, sym, subst, ◌∙◌, arith}
use Rattle.std.specs.List.{AllByRecursion}
use Rattle.std.proofs.lemmas.List.{length-map}
use Rattle.std.proofs.lemmas.List.Elements.{recursion_from_All}
use Rattle.damon_types.specs.declared.range.Range.{Range}
use Rattle.damon_types.specs.declared.space.Target.{Target}
use Rattle.damon_types.specs.Span.{span_of, spans}
use Rattle.damon_types.specs.Within.{AreWithin}
use Rattle.region_list.specs.Regions.{RegionList}
use Rattle.region_list.specs.Tiling.{Tiling}
use Rattle.region_list.specs.Division.{divided}
use Rattle.live_commit.specs.SetupView.{value_of}
use Rattle.region_list.proofs.Lemmas.{counts_shrunk, tiling_some}
use Rattle.damon_core.specs.State.{Core, opening, opening_core}
use Rattle.damon_core.specs.Kept.{IsMonitor, RowsLieIn, SamplingView}
use Rattle.damon_core.specs.declared.report.Report.{Report}
use Rattle.damon_core.specs.Report.{ReportValue, report_value}
use Rattle.scheme_engine.specs.Kept.{IsRunIn}
use Rattle.live_commit.specs.declared.phase.Phase.TheVariants.{Idle}
use Rattle.damon_core.specs.Note.{was_hit}
use Rattle.damon_core.specs.Stands.{bit_at, last_pass}
use Rattle.damon_core.specs.Totals.{checks_made, hits_made}
use Rattle.damon_core.proofs.Keeping.{reached_of}
use Rattle.damon_core.proofs.Opening.{opening_holds}
use Rattle.damon_core.proofs.Shown.{shown}
use Rattle.damon_core.proofs.SlotFacts.{serving_opens}
use Rattle.damon_core.proofs.RowFacts.{counts-divided}
use Rattle.damon_core.proofs.monitor.Monitor.new.Goals as goal

pub new-requires : goal.new-requires
new-requires c =
    let v = value_of c.args.setup.now in
    let sound = c.args.setup.now.sound in
    let made : c.in_ok-regions.regions ≡ (opening_core v).regions = c.in_ok-regions.ensures.regions in
    let tiling = subst (λ (x : RegionList). Tiling x.unit x.ranges (spans x.rows)) made c.in_ok-regions.ensures.kept.tiling in
    let wide = recursion_from_All (λ (g : Range). v.unit ≤ g.pages) v.ranges sound.wide in
    let some = tiling_some v.unit v.ranges (spans ((opening_core v).regions.rows)) sound.unit_some sound.ranges_some wide tiling in
    record {
      some = subst (λ (x : RegionList). 0 < length x.rows) (sym made) (omega (arith, some, length-map ((opening_core v).regions.rows) span_of));
      cap = omega (arith, ap (λ (x : RegionList). x.cap) made, sound.cap_most);
    }

pub invariant_of-result : goal.invariant_of-result
invariant_of-result c =
    let v = value_of c.args.setup.now in
    let sound = c.args.setup.now.sound in
    let made : c.in_ok-regions.regions ≡ (opening_core v).regions = c.in_ok-regions.ensures.regions in
    subst (λ x. IsMonitor c.in_ok-space.space v.attrs x (record { ticks = 0; since = 0 }) (record { checks = 0; hits = 0 }) c.in_ok-report.report.value c.in_ok-engine.engine.value) (sym c.in_ok-sampling.ensures) (record {
      attrs_sound = sound.attrs;
      max = ap (λ (x : RegionList). x.max) made;
      cap_few = omega (arith, sound.cap_most, ap (λ (x : RegionList). x.cap) made);
      ranges_in = subst (AreWithin c.in_ok-space.space) (sym (ap (λ (x : RegionList). x.ranges) made)) (subst (λ ts. AreWithin ts v.ranges) (sym c.in_ok-space.ensures.cases) sound.within);
      picks_in = tt;
      counts = subst (λ (x : RegionList). AllByRecursion (λ q. q.count ≤ 0) x.rows) (sym made) (counts_shrunk v.attrs.max 0 v.ranges (divided v.unit v.attrs.min v.ranges) (counts-divided v.unit v.attrs.min v.ranges));
      since_few = omega arith;
      checks_few = omega arith;
      hits_few = omega arith;
      report_room = omega (arith, ap (λ (x : RegionList). x.cap) made, ap (λ (r : Report). r.rows.cap) c.in_ok-report.ensures);
      applied_room = omega (arith, ap (λ (x : RegionList). x.cap) made, ap (λ (r : Report). r.applied.cap) c.in_ok-report.ensures);
      report_in = subst (λ (r : Report). RowsLieIn c.in_ok-space.space r.rows.rows) (sym c.in_ok-report.ensures) (tt {0});
      runs_in = subst (λ (r : Report). AllByRecursion (IsRunIn c.in_ok-space.space) r.applied.runs) (sym c.in_ok-report.ensures) (tt {0});
      engine_room = omega (arith, ap (λ (x : RegionList). x.cap) made, c.in_ok-engine.ensures.cap);
      serving = serving_opens c.in_ok-engine.engine.value.slots c.in_ok-engine.ensures.new;
    })

pub returns-clause-opening : goal.returns-clause-opening
returns-clause-opening c =
    let v = value_of c.args.setup.now in
    let space = c.in_ok-space.ensures.cases in
    let made : c.in_ok-regions.regions ≡ (opening_core v).regions = c.in_ok-regions.ensures.regions in
    let report = ap report_value c.in_ok-report.ensures in
    let bits = ap (λ (s : SamplingView). s.bits) c.in_ok-sampling.ensures in
    let core : List Target → SamplingView → ReportValue → Core = λ ts s r. (shown v.version ts v.attrs s (record { ticks = 0; since = 0 }) (record { checks = 0; hits = 0 }) r c.in_ok-engine.engine.value.slots).core in
    let start : RegionList → SamplingView = λ rs. record { regions = rs; phase = Idle; picks = []; bits = []; before = 0 } in
    record {
      same = ap (λ (ts : List Target). core ts c.in_ok-sampling.sampling.value (report_value c.in_ok-report.report.value)) space ∙ ap (λ (s : SamplingView). core v.space s (report_value c.in_ok-report.report.value)) (c.in_ok-sampling.ensures ∙ ap start made) ∙ ap (λ (r : ReportValue). core v.space (start (opening_core v).regions) r) report;
      each = ap (λ (s : SamplingView). length s.bits) c.in_ok-sampling.ensures ∙ sym (ap (λ (s : SamplingView). length s.picks) c.in_ok-sampling.ensures);
      results = λ k. (ap (λ bs. bit_at bs k) bits ∙ opening_holds (λ ns. false ≡ was_hit ns (last_pass c.in_ok-sampling.sampling.value.phase 0) k) refl (λ slot scheme ns none. none) v);
      checks = opening_holds (λ ns. 0 ≡ checks_made ns) refl (λ slot scheme ns none. none) v;
      hits = opening_holds (λ ns. 0 ≡ hits_made ns) refl (λ slot scheme ns none. none) v;
      slots = c.in_ok-engine.ensures.slots;
    }

pub returns-clause-reached : goal.returns-clause-reached
returns-clause-reached c = reached_of (opening (value_of c.args.setup.now)) c.opening_is_reached.ensures
