-- Which range specs are accepted, and the first reason against others.
use Rattle.std.specs.Prelude.{ℕ, ◌+◌, ◌*◌, ◌%◌, Bool, false, not, ◌&&◌, ◌||◌, ◌==◌, nat_le, nat_lt, List, [], ◌∷◌, length, slice_get, Option, Some, None, Result, Ok, Err, if◌then◌else◌}
use Rattle.std.specs.List.{last_or}
use Rattle.std.specs.Result.{result_and}
use Rattle.damon_types.specs.declared.range.TheConstants.{MAX_CLASS}
use Rattle.damon_types.specs.declared.space.TheConstants.{PAGE_SIZE}
use Rattle.damon_types.specs.declared.space.Target.{Target}
use Rattle.damon_types.specs.declared.range.RangeSpec.{RangeSpec}
use Rattle.damon_types.specs.Faults.{fault_as}
use Rattle.target_ranges.specs.declared.fault.RangeFault.{RangeFault}
use Rattle.target_ranges.specs.declared.fault.RangeWhy.{RangeWhy}
use Rattle.target_ranges.specs.declared.fault.RangeWhy.TheVariants.{TooMany, NoSuchTarget, Unaligned, Reversed, OutsideSpan, TooSmall, BadClass, Overlap}
use Rattle.target_ranges.specs.Made.{page_count}

-- the spec does not come after the one before it: it is in an earlier target, or in the same one and begins before its end
abbrev pub overlaps : Option RangeSpec → RangeSpec → Bool
overlaps None s = false
overlaps (Some p) s = nat_lt s.target p.target || ((s.target == p.target) && nat_lt s.from p.to)

-- The first reason against a spec after the one before it, in its target if there is one: an address that is no multiple of the page
-- size, an end that is not after the beginning, a part outside of the target, too few pages, a class that does not exist, or an overlap.
abbrev pub checked_within : ℕ → Option RangeSpec → RangeSpec → Option Target → Result (Unit {0}) RangeWhy
checked_within unit before s None = Err NoSuchTarget
checked_within unit before s (Some t) =
    if not ((s.from % PAGE_SIZE == 0) && (s.to % PAGE_SIZE == 0)) then Err Unaligned
    else if nat_le s.to s.from then Err Reversed
    else if not (nat_le t.base s.from && nat_le s.to (t.base + PAGE_SIZE * t.pages)) then Err OutsideSpan
    else if nat_lt (page_count s) unit then Err TooSmall
    else if nat_lt MAX_CLASS s.class then Err BadClass
    else if overlaps before s then Err Overlap
    else Ok tt

-- the first reason against the spec with this index, after the one before it
abbrev pub checked_range : List Target → ℕ → ℕ → ℕ → Option RangeSpec → RangeSpec → Result (Unit {0}) RangeWhy
checked_range ts unit cap index before s =
    if nat_le cap index then Err TooMany else checked_within unit before s (slice_get ts s.target)

-- the first reason against one spec more after these
abbrev pub checked_next : List Target → ℕ → ℕ → List RangeSpec → RangeSpec → Result (Unit {0}) RangeWhy
checked_next ts unit cap before s = checked_range ts unit cap (length before) (last_or None before) s

-- the reason against the spec with this index, as a fault of the list
abbrev pub fault_at : ℕ → Result (Unit {0}) RangeWhy → Result (Unit {0}) RangeFault
fault_at index r = fault_as (λ why. record { index = index; why = why }) r

-- the first spec that is rejected, where the first of these specs has this index and this spec before it
abbrev pub checked_from : List Target → ℕ → ℕ → ℕ → Option RangeSpec → List RangeSpec → Result (Unit {0}) RangeFault
checked_from ts unit cap index before [] = Ok tt
checked_from ts unit cap index before (s ∷ specs) =
    result_and (fault_as (λ why. record { index = index; why = why }) (checked_range ts unit cap index before s))
    (checked_from ts unit cap (index + 1) (Some s) specs)

-- the first spec that is rejected
abbrev pub checked_ranges : List Target → ℕ → ℕ → List RangeSpec → Result (Unit {0}) RangeFault
checked_ranges ts unit cap specs = checked_from ts unit cap 0 None specs
