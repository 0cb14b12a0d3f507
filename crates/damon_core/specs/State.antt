-- The state of a monitor, as the definitions see it.
use Rattle.std.specs.Prelude.{ℕ, List, [], length, reverse, filter_map}
use Rattle.std.specs.Option.{option_map}
use Rattle.damon_types.specs.declared.space.Target.{Target}
use Rattle.damon_types.specs.declared.attrs.Attrs.{Attrs}
use Rattle.damon_types.specs.declared.scheme.Version.{Version}
use Rattle.region_list.specs.Regions.{RegionList}
use Rattle.region_list.specs.Division.{divided}
use Rattle.region_list.specs.Shrink.{shrunk}
use Rattle.live_commit.specs.declared.phase.Phase.{Phase}
use Rattle.live_commit.specs.declared.phase.Phase.TheVariants.{Idle}
use Rattle.live_commit.specs.Setup.{SetupValue}
use Rattle.damon_core.specs.Note.{Note, set}
use Rattle.damon_core.specs.Report.{ReportValue}

-- What a monitor shows of itself: the version of its rules, its targets, attributes, regions and phase, the picks of the pass that
-- was prepared last, the passes in all, those since the last aggregation, the number of rows at the start of
-- the last split (0 before the first), and what the last aggregation reported.
pub record Core : Type 0 where
  pub version : Version
  pub space : List Target
  pub attrs : Attrs
  pub regions : RegionList
  pub phase : Phase
  pub picks : List ℕ
  pub ticks : ℕ
  pub since : ℕ
  pub before : ℕ
  pub report : ReportValue

-- a state: what a monitor shows, and all that has happened, the newest first
pub record State : Type 0 where
  pub core : Core
  pub notes : List Note

-- how many rows there are
abbrev pub row_count : Core → ℕ
row_count c = length c.regions.rows

-- What a monitor shows before the first event. Its rows are the division of the ranges, adjacent rows joined until there are at
-- most `max`.
abbrev pub opening_core : SetupValue → Core
opening_core v = record {
  version = v.version;
  space = v.space;
  attrs = v.attrs;
  regions = record { ranges = v.ranges; rows = shrunk v.ranges v.attrs.max (divided v.unit v.attrs.min v.ranges); unit = v.unit; cap = v.cap; max = v.attrs.max };
  phase = Idle;
  picks = [];
  ticks = 0;
  since = 0;
  before = 0;
  report = record { tick = 0; threshold = 0; rows = []; runs = []; choices = [] };
}

-- the notes before the first event: each slot of the setup is set, in order
abbrev pub opening_notes : SetupValue → List Note
opening_notes v = reverse (filter_map (λ change. option_map (set change.slot) change.scheme) v.slots)

-- the state before the first event
abbrev pub opening : SetupValue → State
opening v = record { core = opening_core v; notes = opening_notes v }
