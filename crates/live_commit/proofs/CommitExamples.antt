-- Commits with the first check that fails, worked out by hand.
use Rattle.std.proofs.Common.{◌≡◌, ℕ, ◌+◌, ◌*◌, List, [], ◌∷◌, Ok, Err, Option, Some, None, refl}
use Rattle.damon_types.specs.declared.attrs.Attrs.{Attrs}
use Rattle.damon_types.specs.declared.attrs.AttrsFault.TheVariants.{MinTooSmall}
use Rattle.damon_types.specs.declared.range.RangeSpec.{RangeSpec}
use Rattle.damon_types.specs.declared.scheme.SchemeFault.TheVariants.{SlotOutOfRange}
use Rattle.damon_types.specs.declared.scheme.Version.TheVariants.{One, Two}
use Rattle.damon_types.specs.declared.space.Target.{Target}
use Rattle.target_ranges.specs.declared.fault.RangeWhy.TheVariants.{TooSmall}
use Rattle.live_commit.specs.declared.fault.CommitFault.TheVariants.{Busy, NoRange, BadRange, RangesOverMax, BadAttrs, OverCap, BadScheme, BadCost}
use Rattle.live_commit.specs.declared.phase.Phase.{Phase}
use Rattle.live_commit.specs.declared.phase.Phase.TheVariants.{Idle, Clearing, Armed, Checking}
use Rattle.live_commit.specs.declared.view.View.{View}
use Rattle.live_commit.specs.Accepts.{checked_commit}
use Rattle.live_commit.specs.Commit.{CommitValue}

-- one target of 16 pages
abbrev space : List Target
space = record { base = 65536; pages = 16 } ∷ []

-- a monitor with four rows in three ranges, of at least two pages each, and with at most eight rows
abbrev view : Phase → View
view phase = record { version = One; phase = phase; rows = 4; ranges = 3; unit = 2; cap = 8; max = 8 }

-- new attributes alone
abbrev attrs : ℕ → ℕ → CommitValue
attrs min max = record {
  attrs = Some (record { min = min; max = max; aggr = 5 });
  ranges = None;
  slot = None;
  metric = None;
  cost = None;
}

-- new ranges alone
abbrev ranges : List RangeSpec → CommitValue
ranges specs = record { attrs = None; ranges = Some specs; slot = None; metric = None; cost = None }

-- the first pages of the target
abbrev first_pages : ℕ → RangeSpec
first_pages pages = record { target = 0; from = 65536; to = 65536 + 4096 * pages; class = 7 }

-- an emptied slot alone
abbrev emptied : ℕ → CommitValue
emptied slot = record {
  attrs = None;
  ranges = None;
  slot = Some (record { slot = slot; scheme = None });
  metric = None;
  cost = None;
}

clears_are_counted : checked_commit space (view (Clearing 1)) (ranges []) ≡ Err (Busy 1)
clears_are_counted = refl

loads_are_counted_after_the_clears : checked_commit space (view (Checking 1)) (ranges []) ≡ Err (Busy 5)
loads_are_counted_after_the_clears = refl

armed_accepts : checked_commit space (view Armed) (attrs 3 8) ≡ Ok tt
armed_accepts = refl

no_range_is_refused : checked_commit space (view Idle) (ranges []) ≡ Err NoRange
no_range_is_refused = refl

one_page_is_too_small : checked_commit space (view Idle) (ranges (first_pages 1 ∷ [])) ≡ Err (BadRange 0 TooSmall)
one_page_is_too_small = refl

two_pages_are_accepted : checked_commit space (view Idle) (ranges (first_pages 2 ∷ [])) ≡ Ok tt
two_pages_are_accepted = refl

number_comes_before_the_attributes : checked_commit space (view Idle) (attrs 1 2) ≡ Err (RangesOverMax 3 2)
number_comes_before_the_attributes = refl

attributes_come_before_the_cap : checked_commit space (view Idle) (attrs 2 9) ≡ Err (BadAttrs (MinTooSmall 2))
attributes_come_before_the_cap = refl

two_rows_at_least_are_too_few : checked_commit space (view Idle) (attrs 2 5) ≡ Err (BadAttrs (MinTooSmall 2))
two_rows_at_least_are_too_few = refl

cap_is_below_the_new_max : checked_commit space (view Idle) (attrs 3 9) ≡ Err (OverCap 9 8)
cap_is_below_the_new_max = refl

slot_16_is_refused : checked_commit space (view Idle) (emptied 16) ≡ Err (BadScheme (SlotOutOfRange 16))
slot_16_is_refused = refl

slot_15_is_emptied : checked_commit space (view Idle) (emptied 15) ≡ Ok tt
slot_15_is_emptied = refl

-- a cost alone
abbrev cost : ℕ → CommitValue
cost slot = record { attrs = None; ranges = None; slot = None; metric = None; cost = Some (record { slot = slot; nanos = 7 }) }

abbrev view_two : View
view_two = record { version = Two; phase = Idle; rows = 4; ranges = 3; unit = 2; cap = 8; max = 8 }

no_cost_in_one : checked_commit space (view Idle) (cost 3) ≡ Err (BadCost 3)
no_cost_in_one = refl

cost_in_two : checked_commit space view_two (cost 15) ≡ Ok tt
cost_in_two = refl

no_such_slot : checked_commit space view_two (cost 16) ≡ Err (BadCost 16)
no_such_slot = refl

-- one target of 3 pages, watched whole: three rows of one page in one range
abbrev three_pages : List Target
three_pages = record { base = 65536; pages = 3 } ∷ []

abbrev three_rows : Phase → View
three_rows phase = record { version = One; phase = phase; rows = 3; ranges = 1; unit = 1; cap = 8; max = 8 }

-- the same range again, and slot 16 emptied
abbrev emptied_slot_16 : Option Attrs → CommitValue
emptied_slot_16 attrs = record {
  attrs = attrs;
  ranges = Some (record { target = 0; from = 65536; to = 77824; class = 0 } ∷ []);
  slot = Some (record { slot = 16; scheme = None });
  metric = None;
  cost = None;
}

slot_comes_last : checked_commit three_pages (three_rows Idle) (emptied_slot_16 None) ≡ Err (BadScheme (SlotOutOfRange 16))
slot_comes_last = refl

attributes_come_before_the_slot :
    checked_commit three_pages (three_rows Idle) (emptied_slot_16 (Some (record { min = 2; max = 8; aggr = 5 }))) ≡ Err (BadAttrs (MinTooSmall 2))
attributes_come_before_the_slot = refl

phase_comes_first : checked_commit three_pages (three_rows (Checking 1)) (emptied_slot_16 None) ≡ Err (Busy 4)
phase_comes_first = refl
