-- The checks of the parts of a setup.
use Rattle.std.specs.Prelude.{◌≡◌, ◌⊎◌, ℕ, ◌&&◌, ◌==◌, nat_le, nat_lt, List, length, Result, Ok, Err, if◌then◌else◌}
use Rattle.std.specs.Result.{result_and}
use Rattle.damon_types.specs.declared.attrs.Attrs.{Attrs}
use Rattle.damon_types.specs.declared.range.RangeSpec.{RangeSpec}
use Rattle.damon_types.specs.declared.scheme.Version.{Version}
use Rattle.damon_types.specs.declared.scheme.SlotChange.{SlotChange}
use Rattle.damon_types.specs.declared.space.Target.{Target}
use Rattle.damon_types.specs.Attrs.{checked_attrs}
use Rattle.damon_types.specs.Faults.{fault_as}
use Rattle.target_ranges.specs.Checked.{checked_ranges}
use Rattle.live_commit.specs.declared.setup.TheConstants.{MAX_CAP, MAX_UNIT, MIN_CAP}
use Rattle.live_commit.specs.declared.fault.SetupFault.{SetupFault}
use Rattle.live_commit.specs.declared.fault.SetupFault.TheVariants.{BadUnit, BadCap, BadAttrs, OverCap, NoRange, BadRange, RangesOverMax, Memory}
use Rattle.live_commit.specs.Slots.{checked_slots}

-- the least size of a region is from 1 page to MAX_UNIT
abbrev pub checked_unit : ℕ → Result (Unit {0}) SetupFault
checked_unit unit = if nat_le 1 unit && nat_le unit MAX_UNIT then Ok tt else Err (BadUnit unit)

-- the cap on the number of regions is from MIN_CAP to MAX_CAP
abbrev pub checked_cap : ℕ → Result (Unit {0}) SetupFault
checked_cap cap = if nat_le MIN_CAP cap && nat_le cap MAX_CAP then Ok tt else Err (BadCap cap)

-- the first check of the numbers that fails; the attributes are within their limits, and allow at most `cap` regions
abbrev pub checked_limits : ℕ → ℕ → Attrs → Result (Unit {0}) SetupFault
checked_limits unit cap a =
    result_and (checked_unit unit)
    (result_and (checked_cap cap)
    (result_and (fault_as BadAttrs (checked_attrs a)) (if nat_lt cap a.max then Err (OverCap a.max cap) else Ok tt)))

-- the ranges are at most `max`
abbrev pub checked_count : ℕ → ℕ → Result (Unit {0}) SetupFault
checked_count ranges max = if nat_lt max ranges then Err (RangesOverMax ranges max) else Ok tt

-- the first check of the ranges that fails: that there is one, that each is accepted, that they are not too many
abbrev pub checked_watched : List Target → ℕ → ℕ → ℕ → List RangeSpec → Result (Unit {0}) SetupFault
checked_watched space unit cap max specs =
    if length specs == 0 then Err NoRange
    else result_and (fault_as (λ f. BadRange f.index f.why) (checked_ranges space unit cap specs)) (checked_count (length specs) max)

-- the first check of a setup that fails: of the numbers, then of the ranges, then of the slots
abbrev pub checked_setup : Version → List Target → ℕ → ℕ → Attrs → List RangeSpec → List SlotChange → Result (Unit {0}) SetupFault
checked_setup version space unit cap a specs slots =
    result_and (checked_limits unit cap a)
    (result_and (checked_watched space unit cap a.max specs) (checked_slots version slots))

-- something is made only if the check succeeds; an error is that of the check, or Memory if the check succeeds
abbrev pub AnswersAs : {T : Type 0} → Result (Unit {0}) SetupFault → Result T SetupFault → Type 0
AnswersAs checked (Ok made) = checked ≡ Ok tt
AnswersAs checked (Err e) = (checked ≡ Err e) ⊎ ((e ≡ Memory) × (checked ≡ Ok tt))
