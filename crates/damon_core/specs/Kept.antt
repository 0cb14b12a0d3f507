-- What a monitor keeps, for the proofs of its calls. No public contract rests on this file.
use Rattle.std.specs.Prelude.{◌≡◌, ℕ, ◌+◌, ◌-◌, ◌*◌, ◌^◌, ◌≤◌, ◌<◌, Bool, List, count_by, length, take, Option, Some, Ok}
use Rattle.std.specs.List.{AllByRecursion}
use Rattle.damon_types.specs.declared.space.Target.{Target}
use Rattle.damon_types.specs.declared.attrs.Attrs.{Attrs}
use Rattle.damon_types.specs.declared.range.RangeSpec.{RangeSpec}
use Rattle.damon_types.specs.declared.row.Row.{Row}
use Rattle.damon_types.specs.Attrs.{IsAttrs}
use Rattle.damon_types.specs.Space.{pages_of}
use Rattle.damon_types.specs.Within.{AreWithin}
use Rattle.target_ranges.specs.Checked.{checked_ranges}
use Rattle.region_list.specs.Regions.{RegionList}
use Rattle.sampler.specs.Pick.{PickList}
use Rattle.live_commit.specs.Accepts.{ranges_after}
use Rattle.live_commit.specs.declared.phase.Phase.{Phase}
use Rattle.live_commit.specs.declared.phase.Phase.TheVariants.{Clearing, Armed, Checking, Due}
use Rattle.scheme_engine.specs.Engine.{EngineValue}
use Rattle.scheme_engine.specs.Kept.{CountsWithin, IsRunIn, StartBy}
use Rattle.scheme_engine.specs.Slots.{SlotValue}
use Rattle.damon_core.specs.Pass.{IsPickWithin}
use Rattle.damon_core.specs.declared.clock.Clock.{Clock}
use Rattle.damon_core.specs.declared.report.Report.{Report}
use Rattle.damon_core.specs.declared.totals.Totals.{Totals}

-- how many picks of the pass are loaded
abbrev pub loaded_so_far : Phase → ℕ
loaded_so_far (Checking k) = k
loaded_so_far _ = 0

-- a pass under way has a pick for each row
abbrev pub HasPicks : Phase → ℕ → ℕ → Type 0
HasPicks (Clearing k) rows picks = picks ≡ rows
HasPicks Armed rows picks = picks ≡ rows
HasPicks (Checking k) rows picks = picks ≡ rows
HasPicks _ rows picks = Unit {0}

-- the hits so far of the pass under way are those among the picks that are loaded
abbrev pub CountsHits : Phase → List Bool → ℕ → Type 0
CountsHits (Clearing k) bits found = found ≡ 0
CountsHits Armed bits found = found ≡ 0
CountsHits (Checking k) bits found = found ≡ count_by (λ hit. hit) (take k bits)
CountsHits _ bits found = Unit {0}

-- What is sampled: the regions, the phase, the picks of the pass that was prepared last with the results of their
-- checks, and the number of rows at the start of the last split.
pub record SamplingView : Type 0 where
  pub regions : RegionList
  pub phase : Phase
  pub picks : List ℕ
  pub bits : List Bool
  pub before : ℕ

-- What a commit that is accepted asks of regions: the new ranges, if there are any, and the most rows allowed.
pub record CanCommit (space : List Target) (r : RegionList) (new : Option (List RangeSpec)) (most : ℕ) : Type 0 where
  pub least : 1 ≤ most
  pub within : most ≤ r.cap
  pub few : ranges_after new (length r.ranges) ≤ most
  pub specs : (l : List RangeSpec) → new ≡ Some l → (0 < length l) × (checked_ranges space r.unit r.cap l ≡ Ok tt)

-- What holds of what is sampled, at all times. A commit has room for all rows, and for new ranges with their rows.
pub record IsSampling (regions : RegionList) (phase : Phase) (picks : PickList) (hits_so_far row_room range_room : ℕ) : Type 0 where
  pub some : 0 < length regions.rows
  pub room : regions.cap ≡ picks.cap
  pub within : IsPickWithin phase (length regions.rows)
  pub bits_each : length picks.bits ≡ length picks.pages
  pub has_picks : HasPicks phase (length regions.rows) (length picks.pages)
  pub found : CountsHits phase picks.bits hits_so_far
  pub earlier : regions.cap ≤ row_room
  pub commits : range_room ≡ regions.cap

-- fewer than 1,000 passes since the last aggregation, or from one to 1,000 where one is due
abbrev pub SinceFew : Phase → ℕ → Type 0
SinceFew Due since = (1 ≤ since) × (since ≤ 1000)
SinceFew _ since = since < 1000

-- each row has a page, and its pages are pages of the space
abbrev pub RowsLieIn : List Target → List Row → Type 0
RowsLieIn space rows = AllByRecursion (λ r. (1 ≤ r.pages) × (r.start + r.pages ≤ pages_of space)) rows

-- a slot whose window never turned, to which nothing was charged, and whose scheme was not run since it was set
pub record IsUnused (s : SlotValue) : Type 0 where
  pub window : s.window.start ≡ 0
  pub counts : CountsWithin 0 s

-- What holds of the slots by the passes that have ended. They were served once in each aggregation, and so less often than that.
pub record IsServing (clock : Clock) (slots : List SlotValue) : Type 0 where
  pub since_ticks : clock.since ≤ clock.ticks
  pub ticks_few : clock.ticks ≤ 2 ^ 40
  pub windows : StartBy clock.ticks slots
  pub served : AllByRecursion (CountsWithin (clock.ticks - clock.since)) slots

-- what a monitor keeps at all times
pub record IsMonitor (space : List Target) (attrs : Attrs) (sampling : SamplingView) (clock : Clock) (totals : Totals) (report : Report) (engine : EngineValue) : Type 0 where
  pub attrs_sound : IsAttrs attrs
  pub max : sampling.regions.max ≡ attrs.max
  pub cap_few : sampling.regions.cap ≤ 4096
  pub ranges_in : AreWithin space sampling.regions.ranges
  pub picks_in : AllByRecursion (λ p. p < pages_of space) sampling.picks
  pub counts : AllByRecursion (λ r. r.count ≤ clock.since) sampling.regions.rows
  pub since_few : SinceFew sampling.phase clock.since
  pub checks_few : totals.checks ≤ 4096 * clock.ticks
  pub hits_few : totals.hits ≤ 4096 * clock.ticks
  pub report_room : sampling.regions.cap ≡ report.rows.cap
  pub applied_room : sampling.regions.cap ≡ report.applied.cap
  pub report_in : RowsLieIn space report.rows.rows
  pub runs_in : AllByRecursion (IsRunIn space) report.applied.runs
  pub engine_room : sampling.regions.cap ≡ engine.cap
  pub serving : IsServing clock engine.slots
