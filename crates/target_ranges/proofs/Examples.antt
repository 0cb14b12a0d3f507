-- Lists of specs with their first faults, and the ranges that are made, worked out by hand.
use Rattle.std.proofs.Common.{◌≡◌, ℕ, List, [], ◌∷◌, ◌++◌, Result, Ok, Err, refl}
use Rattle.damon_types.specs.declared.space.Target.{Target}
use Rattle.damon_types.specs.declared.range.RangeSpec.{RangeSpec}
use Rattle.target_ranges.specs.declared.fault.RangeFault.{RangeFault}
use Rattle.target_ranges.specs.declared.fault.RangeWhy.{RangeWhy}
use Rattle.target_ranges.specs.declared.fault.RangeWhy.TheVariants.{TooMany, NoSuchTarget, Unaligned, Reversed, OutsideSpan, TooSmall, BadClass, Overlap}
use Rattle.target_ranges.specs.Checked.{checked_ranges}
use Rattle.target_ranges.specs.Made.{ranges_of}

-- two targets, of 3 pages and of 20
abbrev targets : List Target
targets = record { base = 65536; pages = 3 } ∷ record { base = 4096; pages = 20 } ∷ []

abbrev spec : ℕ → ℕ → ℕ → RangeSpec
spec target from to = record { target = target; from = from; to = to; class = 7 }

nothing_is_accepted : checked_ranges targets 2 8 [] ≡ Ok tt
nothing_is_accepted = refl

adjacent_are_accepted : checked_ranges targets 1 8 (spec 0 65536 69632 ∷ spec 0 69632 77824 ∷ spec 1 4096 8192 ∷ []) ≡ Ok tt
adjacent_are_accepted = refl

missing_target_comes_first : checked_ranges targets 2 8 (spec 2 1 0 ∷ []) ≡ Err (record { index = 0; why = NoSuchTarget })
missing_target_comes_first = refl

byte_off_is_refused : checked_ranges targets 2 8 (spec 0 65537 65536 ∷ []) ≡ Err (record { index = 0; why = Unaligned })
byte_off_is_refused = refl

empty_is_refused : checked_ranges targets 2 8 (spec 0 73728 73728 ∷ []) ≡ Err (record { index = 0; why = Reversed })
empty_is_refused = refl

page_past_the_end_is_refused : checked_ranges targets 2 8 (spec 0 65536 81920 ∷ []) ≡ Err (record { index = 0; why = OutsideSpan })
page_past_the_end_is_refused = refl

one_page_is_refused : checked_ranges targets 2 8 (spec 0 65536 69632 ∷ []) ≡ Err (record { index = 0; why = TooSmall })
one_page_is_refused = refl

class_16_is_refused : checked_ranges targets 2 8 (record { target = 0; from = 65536; to = 73728; class = 16 } ∷ []) ≡ Err (record { index = 0; why = BadClass })
class_16_is_refused = refl

shared_page_is_refused : checked_ranges targets 2 8 (spec 0 65536 73728 ∷ spec 0 69632 77824 ∷ []) ≡ Err (record { index = 1; why = Overlap })
shared_page_is_refused = refl

earlier_target_is_refused : checked_ranges targets 2 8 (spec 1 8192 16384 ∷ spec 0 65536 73728 ∷ []) ≡ Err (record { index = 1; why = Overlap })
earlier_target_is_refused = refl

one_too_many_is_refused : checked_ranges targets 2 1 (spec 0 65536 73728 ∷ spec 2 1 0 ∷ []) ≡ Err (record { index = 1; why = TooMany })
one_too_many_is_refused = refl

pages_are_counted_through : ranges_of targets (spec 0 69632 77824 ∷ spec 1 8192 20480 ∷ []) ≡ record { target = 0; first = 1; pages = 2; class = 7 } ∷ record { target = 1; first = 4; pages = 3; class = 7 } ∷ []
pages_are_counted_through = refl

-- one target of 3 pages, with ranges of at least two pages
abbrev one_target : List Target
one_target = record { base = 65536; pages = 3 } ∷ []

-- the range from one address to another, and its first fault as the only range
abbrev alone : ℕ → ℕ → ℕ → List RangeSpec
alone target from to = record { target = target; from = from; to = to; class = 0 } ∷ []

abbrev first_is : RangeWhy → Result (Unit {0}) RangeFault
first_is why = Err (record { index = 0; why = why })

start_is_a_byte_off : checked_ranges one_target 2 8 (alone 0 0x10001 0x12000) ≡ first_is Unaligned
start_is_a_byte_off = refl

ends_where_it_starts : checked_ranges one_target 2 8 (alone 0 0x12000 0x12000) ≡ first_is Reversed
ends_where_it_starts = refl

page_after_the_target : checked_ranges one_target 2 8 (alone 0 0x10000 0x14000) ≡ first_is OutsideSpan
page_after_the_target = refl

page_in_place_of_two : checked_ranges one_target 2 8 (alone 0 0x10000 0x11000) ≡ first_is TooSmall
page_in_place_of_two = refl

target_after_the_last : checked_ranges one_target 2 8 (alone 1 0x10000 0x12000) ≡ first_is NoSuchTarget
target_after_the_last = refl

second_shares_a_page :
    checked_ranges one_target 2 8 (alone 0 0x10000 0x12000 ++ alone 0 0x11000 0x13000) ≡ Err (record { index = 1; why = Overlap })
second_shares_a_page = refl
