-- Which commits are accepted, and the first check of the others that fails.
use Rattle.std.specs.Prelude.{ℕ, ◌+◌, ◌==◌, nat_le, nat_lt, List, length, Option, Some, None, Result, Ok, Err, if◌then◌else◌}
use Rattle.std.specs.Option.{option_map_or}
use Rattle.std.specs.Result.{result_and}
use Rattle.damon_types.specs.declared.attrs.Attrs.{Attrs}
use Rattle.damon_types.specs.declared.range.RangeSpec.{RangeSpec}
use Rattle.damon_types.specs.declared.scheme.TheConstants.{MAX_SLOT}
use Rattle.damon_types.specs.declared.scheme.Scheme.{Scheme}
use Rattle.damon_types.specs.declared.scheme.SchemeFault.{SchemeFault}
use Rattle.damon_types.specs.declared.scheme.SchemeFault.TheVariants.{SlotOutOfRange}
use Rattle.damon_types.specs.declared.scheme.CostPart.{CostPart}
use Rattle.damon_types.specs.declared.scheme.Version.{Version}
use Rattle.damon_types.specs.declared.scheme.Version.TheVariants.{One, Two}
use Rattle.damon_types.specs.declared.scheme.SlotChange.{SlotChange}
use Rattle.damon_types.specs.declared.space.Target.{Target}
use Rattle.damon_types.specs.Attrs.{checked_attrs}
use Rattle.damon_types.specs.Faults.{fault_as}
use Rattle.damon_types.specs.Scheme.{checked_in}
use Rattle.target_ranges.specs.Checked.{checked_ranges}
use Rattle.live_commit.specs.declared.phase.Phase.{Phase}
use Rattle.live_commit.specs.declared.phase.Phase.TheVariants.{Clearing, Checking}
use Rattle.live_commit.specs.declared.fault.CommitFault.{CommitFault}
use Rattle.live_commit.specs.declared.fault.CommitFault.TheVariants.{Busy, NoRange, BadRange, RangesOverMax, BadAttrs, OverCap, BadScheme, BadCost}
use Rattle.live_commit.specs.declared.view.View.{View}
use Rattle.live_commit.specs.Commit.{CommitValue}

-- the number of clears and loads that the pass under way has made, with this number of rows
abbrev pub steps_made : Phase → ℕ → ℕ
steps_made (Clearing next) rows = next
steps_made (Checking next) rows = rows + next
steps_made _ rows = 0

-- a commit is refused in Clearing and Checking, with the clears and loads that the pass has made
abbrev pub checked_phase : Phase → ℕ → Result (Unit {0}) CommitFault
checked_phase (Clearing next) rows = Err (Busy next)
checked_phase (Checking next) rows = Err (Busy (rows + next))
checked_phase _ rows = Ok tt

-- new ranges are at least one, and each is accepted
abbrev pub checked_new_ranges : List Target → ℕ → ℕ → Option (List RangeSpec) → Result (Unit {0}) CommitFault
checked_new_ranges space unit cap None = Ok tt
checked_new_ranges space unit cap (Some specs) =
    if length specs == 0 then Err NoRange
    else fault_as (λ f. BadRange f.index f.why) (checked_ranges space unit cap specs)

-- the number of ranges after a commit, where there are `now` before it
abbrev pub ranges_after : Option (List RangeSpec) → ℕ → ℕ
ranges_after ranges now = option_map_or (λ specs. length specs) ranges now

-- the most regions that are allowed after a commit, where at most `now` are allowed before it
abbrev pub max_after : Option Attrs → ℕ → ℕ
max_after attrs now = option_map_or (λ a. a.max) attrs now

-- the ranges are no more than the regions that are allowed
abbrev pub checked_number : ℕ → ℕ → Result (Unit {0}) CommitFault
checked_number ranges max = if nat_lt max ranges then Err (RangesOverMax ranges max) else Ok tt

-- new attributes are within their limits, and allow at most `cap` regions
abbrev pub checked_new_attrs : ℕ → Option Attrs → Result (Unit {0}) CommitFault
checked_new_attrs cap None = Ok tt
checked_new_attrs cap (Some a) =
    result_and (fault_as BadAttrs (checked_attrs a)) (if nat_lt cap a.max then Err (OverCap a.max cap) else Ok tt)

-- the slot exists, and its new scheme, if it gets one, is within its limits
abbrev pub checked_for_slot : Version → ℕ → Option Scheme → Result (Unit {0}) SchemeFault
checked_for_slot version slot None = if nat_lt MAX_SLOT slot then Err (SlotOutOfRange slot) else Ok tt
checked_for_slot version slot (Some s) = checked_in version slot s

-- the first limit that a slot change breaks, as a fault of the commit
abbrev pub checked_new_slot : Version → Option SlotChange → Result (Unit {0}) CommitFault
checked_new_slot version None = Ok tt
checked_new_slot version (Some c) = fault_as BadScheme (checked_for_slot version c.slot c.scheme)

-- a cost is of a slot that exists, in version Two
abbrev pub checked_cost_of : Version → ℕ → Result (Unit {0}) CommitFault
checked_cost_of One slot = Err (BadCost slot)
checked_cost_of Two slot = if nat_le slot MAX_SLOT then Ok tt else Err (BadCost slot)

-- a commit may have no cost
abbrev pub checked_cost : Version → Option CostPart → Result (Unit {0}) CommitFault
checked_cost version None = Ok tt
checked_cost version (Some p) = checked_cost_of version p.slot

-- the first check of a commit that fails: of the phase, the ranges, their number, the attributes, the slot, and the cost
abbrev pub checked_commit : List Target → View → CommitValue → Result (Unit {0}) CommitFault
checked_commit space v c =
    result_and (checked_phase v.phase v.rows)
    (result_and (checked_new_ranges space v.unit v.cap c.ranges)
    (result_and (checked_number (option_map_or (λ specs. length specs) c.ranges v.ranges) (option_map_or (λ a. a.max) c.attrs v.max))
    (result_and (checked_new_attrs v.cap c.attrs)
    (result_and (checked_new_slot v.version c.slot) (checked_cost v.version c.cost)))))
