-- Parts with their first fault, and slot changes that are kept, worked out by hand.
use Rattle.std.proofs.Common.{◌≡◌, ℕ, ◌+◌, List, [], ◌∷◌, Ok, Err, Some, None, refl}
use Rattle.damon_types.specs.declared.attrs.Attrs.{Attrs}
use Rattle.damon_types.specs.declared.attrs.AttrsFault.TheVariants.{MinTooSmall}
use Rattle.damon_types.specs.declared.range.RangeSpec.{RangeSpec}
use Rattle.damon_types.specs.declared.scheme.Action.TheVariants.{Stat}
use Rattle.damon_types.specs.declared.scheme.Prefer.TheVariants.{Hot}
use Rattle.damon_types.specs.declared.scheme.Scheme.{Scheme}
use Rattle.damon_types.specs.declared.scheme.SchemeFault.TheVariants.{SlotOutOfRange, PatternReversed}
use Rattle.damon_types.specs.declared.scheme.Version.TheVariants.{One, Two}
use Rattle.damon_types.specs.declared.scheme.SlotChange.{SlotChange}
use Rattle.damon_types.specs.declared.space.Target.{Target}
use Rattle.target_ranges.specs.declared.fault.RangeWhy.TheVariants.{Overlap}
use Rattle.live_commit.specs.declared.fault.SetupFault.TheVariants.{BadUnit, BadAttrs, OverCap, NoRange, BadRange, RangesOverMax, BadScheme, RepeatedSlot}
use Rattle.live_commit.specs.Checked.{checked_setup}
use Rattle.live_commit.specs.Slots.{checked_slots, kept_slots}

-- one target of 16 pages
abbrev space : List Target
space = record { base = 65536; pages = 16 } ∷ []

abbrev attrs : ℕ → ℕ → Attrs
attrs min max = record { min = min; max = max; aggr = 5 }

-- two pages from an address on
abbrev two_pages : ℕ → RangeSpec
two_pages from = record { target = 0; from = from; to = from + 8192; class = 7 }

-- a scheme for regions of two pages up to `size`
abbrev up_to : ℕ → Scheme
up_to size = record {
  action = Stat;
  pattern = record { size = record { low = 2; high = size }; count = record { low = 0; high = 1 }; age = record { low = 0; high = 1 } };
  quota = None;
  weights = record { size = 1; count = 1; age = 1 };
  prefer = Hot;
  marks = None;
  filters = [];
}

abbrev set : ℕ → ℕ → SlotChange
set slot size = record { slot = slot; scheme = Some (up_to size) }

abbrev emptied : ℕ → SlotChange
emptied slot = record { slot = slot; scheme = None }

unit_comes_first : checked_setup One space 0 2 (attrs 1 2) [] [] ≡ Err (BadUnit 0)
unit_comes_first = refl

attributes_come_before_the_cap : checked_setup One space 1 8 (attrs 1 9) [] [] ≡ Err (BadAttrs (MinTooSmall 1))
attributes_come_before_the_cap = refl

cap_is_above_the_most_regions : checked_setup One space 1 8 (attrs 3 9) [] [] ≡ Err (OverCap 9 8)
cap_is_above_the_most_regions = refl

nothing_is_refused : checked_setup One space 1 8 (attrs 3 3) [] [] ≡ Err NoRange
nothing_is_refused = refl

bad_range_comes_before_their_number : checked_setup One space 2 8 (attrs 3 3) (two_pages 65536 ∷ two_pages 73728 ∷ two_pages 81920 ∷ two_pages 65536 ∷ []) [] ≡ Err (BadRange 3 Overlap)
bad_range_comes_before_their_number = refl

four_ranges_are_too_many_for_three_regions : checked_setup One space 2 8 (attrs 3 3) (two_pages 65536 ∷ two_pages 73728 ∷ two_pages 81920 ∷ two_pages 90112 ∷ []) [] ≡ Err (RangesOverMax 4 3)
four_ranges_are_too_many_for_three_regions = refl

slots_come_last : checked_setup One space 2 8 (attrs 3 3) (two_pages 65536 ∷ []) (set 3 2 ∷ set 3 2 ∷ []) ≡ Err (RepeatedSlot 1)
slots_come_last = refl

first_bad_scheme_is_refused : checked_slots One (set 16 2 ∷ set 3 1 ∷ []) ≡ Err (BadScheme 0 (SlotOutOfRange 16))
first_bad_scheme_is_refused = refl

scheme_comes_before_its_slot : checked_slots One (set 3 2 ∷ set 3 1 ∷ []) ≡ Err (BadScheme 1 (PatternReversed 0))
scheme_comes_before_its_slot = refl

emptied_slot_stays_set : checked_slots One (set 3 2 ∷ emptied 3 ∷ set 3 2 ∷ []) ≡ Err (RepeatedSlot 2)
emptied_slot_stays_set = refl

change_without_scheme_is_passed_over : checked_slots One (emptied 16 ∷ set 3 2 ∷ []) ≡ Ok tt
change_without_scheme_is_passed_over = refl

changes_with_a_scheme_are_kept : kept_slots (set 3 2 ∷ emptied 4 ∷ set 5 2 ∷ []) ≡ set 3 2 ∷ set 5 2 ∷ []
changes_with_a_scheme_are_kept = refl
