-- A setup as contracts see it, and of which parts it is made.
use Rattle.std.specs.Prelude.{ℕ, List}
use Rattle.damon_types.specs.declared.attrs.Attrs.{Attrs}
use Rattle.damon_types.specs.declared.range.RangeSpec.{RangeSpec}
use Rattle.damon_types.specs.declared.scheme.Version.{Version}
use Rattle.damon_types.specs.declared.scheme.SlotChange.{SlotChange}
use Rattle.damon_types.specs.declared.space.Target.{Target}
use Rattle.target_ranges.specs.Made.{ranges_of}
use Rattle.live_commit.specs.declared.setup.Setup.{Setup}
use Rattle.live_commit.specs.Setup.{SetupValue}
use Rattle.live_commit.specs.Slots.{kept_slots}

-- the parts of a setup, without the proof of their limits
abbrev pub value_of : Setup → SetupValue
value_of s = record {
  version = s.version;
  space = s.space;
  unit = s.unit;
  cap = s.cap;
  attrs = s.attrs;
  ranges = s.ranges.list;
  slots = s.slots.list;
}

-- the setup of these parts: the pages of the range specs, and the slot changes that have a scheme
abbrev pub setup_of : Version → List Target → ℕ → ℕ → Attrs → List RangeSpec → List SlotChange → SetupValue
setup_of version space unit cap a specs slots = record {
  version = version;
  space = space;
  unit = unit;
  cap = cap;
  attrs = a;
  ranges = ranges_of space specs;
  slots = kept_slots slots;
}
