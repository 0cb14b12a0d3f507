-- A pass is prepared.
use Rattle.std.proofs.Common.{◌≡◌, ◌≤◌, ℕ, List, [], ◌∷◌, Bool, false, length, refl, ap, sym, subst, ◌∙◌, arith}
use Rattle.std.specs.Prelude.{replicate}
use Rattle.std.proofs.lemmas.List.{length-replicate}
use Rattle.damon_types.specs.declared.attrs.Attrs.{Attrs}
use Rattle.damon_types.specs.declared.space.Target.{Target}
use Rattle.damon_types.specs.Space.{pages_of}
use Rattle.damon_types.specs.Span.{spans}
use Rattle.region_list.specs.Regions.{RegionList}
use Rattle.region_list.specs.Tiles.{Tiles}
use Rattle.live_commit.specs.declared.phase.Phase.{Phase}
use Rattle.live_commit.specs.declared.phase.Phase.TheVariants.{Clearing, Idle}
use Rattle.sampler.specs.Pick.{PickList, picks_of}
use Rattle.scheme_engine.specs.Engine.{EngineValue}
use Rattle.damon_core.specs.Event.{prepare}
use Rattle.damon_core.specs.After.{after}
use Rattle.damon_core.specs.Kept.{IsMonitor, IsSampling, SamplingView, SinceFew}
use Rattle.damon_core.specs.Makes.{Makes}
use Rattle.damon_core.specs.Stands.{MonitorView, Stands}
use Rattle.damon_core.specs.State.{row_count}
use Rattle.damon_core.specs.declared.clock.Clock.{Clock}
use Rattle.damon_core.specs.declared.report.Report.{Report}
use Rattle.damon_core.specs.declared.totals.Totals.{Totals}
use Rattle.damon_core.proofs.RowFacts.{length-picks_of, picks_in, rows_in}
use Rattle.damon_core.proofs.Shown.{after_prepare}
use Rattle.damon_core.proofs.Standing.{prepare_fits, prepare_stands}

-- what is sampled, with a pick for each row
pub sampling_prepared : (r : RegionList) (phase : Phase) (old new : PickList) (hits row_room range_room : ℕ) (ws : List ℕ) → IsSampling r phase old hits row_room range_room → length ws ≡ length r.rows → new ≡ record old { pages = picks_of r.rows ws; bits = replicate (length r.rows) false } → IsSampling r (Clearing 0) new 0 row_room range_room
sampling_prepared r phase old new hits row_room range_room ws kept each made =
    let picks = ap (λ (p : PickList). length p.pages) made ∙ length-picks_of r.rows ws each in
    let bits = ap (λ (p : PickList). length p.bits) made ∙ length-replicate {A = Bool} (length r.rows) false in
    record {
      some = kept.some;
      room = omega (arith, kept.room, ap (λ (p : PickList). p.cap) made);
      within = kept.some;
      bits_each = bits ∙ sym picks;
      has_picks = picks;
      found = refl;
      earlier = kept.earlier;
      commits = kept.commits;
    }

-- a monitor, with a page of the space picked of each row
pub monitor_prepared : (space : List Target) (attrs : Attrs) (old new : SamplingView) (clock : Clock) (totals : Totals) (report : Report) (engine : EngineValue) (ws : List ℕ) → IsMonitor space attrs old clock totals report engine → old.phase ≡ Idle → 1 ≤ old.regions.unit → Tiles old.regions.ranges (spans old.regions.rows) old.regions.unit → new ≡ record old { phase = Clearing 0; picks = picks_of old.regions.rows ws; bits = replicate (length old.regions.rows) false } → IsMonitor space attrs new clock totals report engine
monitor_prepared space attrs old new clock totals report engine ws kept idle unit tiles made =
    let r = old.regions in
    let rows = rows_in space r.ranges r.unit r.rows unit kept.ranges_in tiles in
    subst (λ x. IsMonitor space attrs x clock totals report engine) (sym made) (record {
      attrs_sound = kept.attrs_sound;
      max = kept.max;
      cap_few = kept.cap_few;
      ranges_in = kept.ranges_in;
      picks_in = picks_in (pages_of space) r.rows ws rows;
      counts = kept.counts;
      since_few = subst (λ (ph : Phase). SinceFew ph clock.since) idle kept.since_few;
      checks_few = kept.checks_few;
      hits_few = kept.hits_few;
      report_room = kept.report_room;
      applied_room = kept.applied_room;
      report_in = kept.report_in;
      runs_in = kept.runs_in;
      engine_room = kept.engine_room;
      serving = kept.serving;
    })

-- the event, for the monitor that shows what is shown after it
pub prepare_is_made : (m new : MonitorView) (ws : List ℕ) → m.core.phase ≡ Idle → length ws ≡ row_count m.core → new ≡ after_prepare ws m → Makes Stands m new (prepare ws ∷ [])
prepare_is_made m new ws idle each shows s reached stands = (
  (prepare_fits m s ws stands idle each, tt),
  subst (λ (x : MonitorView). Stands x (after s (prepare ws))) (sym shows) (prepare_stands m s ws reached stands idle each),
)
