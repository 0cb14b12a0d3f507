-- Targets, attributes and schemes at their limits, with the first one that they break, worked out by hand.
use Rattle.std.proofs.Common.{◌≡◌, ℕ, ◌-◌, ◌^◌, true, false, List, [], ◌∷◌, Ok, Err, Some, None, refl}
use Rattle.damon_types.specs.declared.attrs.Attrs.{Attrs}
use Rattle.damon_types.specs.declared.attrs.AttrsFault.TheVariants.{MinTooSmall, MinOverMax, AggrOutOfRange}
use Rattle.damon_types.specs.declared.filter.Filter.{Filter}
use Rattle.damon_types.specs.declared.filter.FilterKind.{FilterKind}
use Rattle.damon_types.specs.declared.filter.FilterKind.TheVariants.{Addr, Class}
use Rattle.damon_types.specs.declared.scheme.Action.TheVariants.{Pageout}
use Rattle.damon_types.specs.declared.scheme.Prefer.TheVariants.{Hot}
use Rattle.damon_types.specs.declared.scheme.Scheme.{Scheme}
use Rattle.damon_types.specs.declared.scheme.SchemeFault.TheVariants.{SlotOutOfRange, PatternReversed, ZeroReset, MarksOutOfOrder, BadFilter, TimeInOne}
use Rattle.damon_types.specs.declared.scheme.Span.{Span}
use Rattle.damon_types.specs.declared.scheme.Version.TheVariants.{One, Two}
use Rattle.damon_types.specs.declared.space.Target.{Target}
use Rattle.damon_types.specs.declared.space.SpaceFault.TheVariants.{NoTarget, TooManyPages, BadPages, BadBase}
use Rattle.damon_types.specs.Attrs.{checked_attrs}
use Rattle.damon_types.specs.Scheme.{checked_in, checked_scheme}
use Rattle.damon_types.specs.Space.{checked, page_of}
use Rattle.damon_types.specs.Calls.{EndsAtFault, after_call, no_calls}

abbrev target : ℕ → ℕ → Target
target base pages = record { base = base; pages = pages }

no_target_is_refused : checked [] ≡ Err NoTarget
no_target_is_refused = refl

pages_come_before_the_base : checked (target 0x10001 0 ∷ []) ≡ Err (BadPages 0)
pages_come_before_the_base = refl

only_base_is_a_byte_off : checked (target 0x10001 3 ∷ []) ≡ Err (BadBase 0)
only_base_is_a_byte_off = refl

base_off_a_page_is_refused : checked (target 0 1 ∷ target 1 1 ∷ target 0 0 ∷ []) ≡ Err (BadBase 1)
base_off_a_page_is_refused = refl

last_page_may_end_at_the_end : checked (target (2 ^ 63 - 4096) 1 ∷ []) ≡ Ok tt
last_page_may_end_at_the_end = refl

page_past_the_end_is_refused : checked (target (2 ^ 63 - 4096) 2 ∷ []) ≡ Err (BadBase 0)
page_past_the_end_is_refused = refl

page_too_many_is_refused : checked (target 0 1048576 ∷ target 0 1 ∷ []) ≡ Err (TooManyPages 1048577)
page_too_many_is_refused = refl

last_byte_of_a_target : page_of (target 0x10000 3 ∷ []) 0 0x12fff ≡ Some 2
last_byte_of_a_target = refl

byte_after_a_target : page_of (target 0x10000 3 ∷ []) 0 0x13000 ≡ None
byte_after_a_target = refl

no_page_of_a_second_target : page_of (target 0x10000 3 ∷ []) 1 0x10000 ≡ None
no_page_of_a_second_target = refl

page_of_the_second_target : page_of (target 0x10000 3 ∷ target 0x1000 2 ∷ []) 1 0x2000 ≡ Some 4
page_of_the_second_target = refl

abbrev attrs : ℕ → ℕ → ℕ → Attrs
attrs min max aggr = record { min = min; max = max; aggr = aggr }

least_attributes : checked_attrs (attrs 3 3 1) ≡ Ok tt
least_attributes = refl

min_comes_before_max : checked_attrs (attrs 2 1 0) ≡ Err (MinTooSmall 2)
min_comes_before_max = refl

max_comes_before_aggr : checked_attrs (attrs 5 4 0) ≡ Err (MinOverMax 5 4)
max_comes_before_aggr = refl

greatest_aggr : checked_attrs (attrs 3 3 1000) ≡ Ok tt
greatest_aggr = refl

aggr_too_great : checked_attrs (attrs 3 3 1001) ≡ Err (AggrOutOfRange 1001)
aggr_too_great = refl

abbrev span : ℕ → ℕ → Span
span low high = record { low = low; high = high }

abbrev filter : FilterKind → Filter
filter kind = record { allow = true; matching = true; kind = kind }

-- a scheme for rows of these sizes, with this reset interval, this middle watermark and these filters
abbrev scheme : Span → ℕ → ℕ → List Filter → Scheme
scheme size reset mid filters = record {
  action = Pageout;
  pattern = record { size = size; count = span 0 9; age = span 2 3 };
  quota = Some (record { bytes = 0; reset = reset; time = None });
  weights = record { size = 1; count = 1; age = 1 };
  prefer = Hot;
  marks = Some (record { high = 5; mid = mid; low = 5 });
  filters = filters;
}

equal_ends_and_marks_are_accepted : checked_scheme 15 (scheme (span 1 1) 1 5 (filter (Class 15) ∷ [])) ≡ Ok tt
equal_ends_and_marks_are_accepted = refl

slot_comes_first : checked_scheme 16 (scheme (span 2 1) 0 6 []) ≡ Err (SlotOutOfRange 16)
slot_comes_first = refl

pattern_comes_before_the_quota : checked_scheme 0 (scheme (span 2 1) 0 6 []) ≡ Err (PatternReversed 0)
pattern_comes_before_the_quota = refl

quota_comes_before_the_marks : checked_scheme 0 (scheme (span 1 2) 0 6 []) ≡ Err ZeroReset
quota_comes_before_the_marks = refl

marks_come_before_the_filters : checked_scheme 0 (scheme (span 1 2) 1 6 (filter (Class 16) ∷ [])) ≡ Err MarksOutOfOrder
marks_come_before_the_filters = refl

class_16_is_refused : checked_scheme 0 (scheme (span 1 2) 1 5 (filter (Class 15) ∷ filter (Class 16) ∷ [])) ≡ Err (BadFilter 1)
class_16_is_refused = refl

no_page_is_refused : checked_scheme 0 (scheme (span 1 2) 1 5 (filter (Addr 4096 4096) ∷ [])) ≡ Err (BadFilter 0)
no_page_is_refused = refl

byte_off_a_page_is_refused : checked_scheme 0 (scheme (span 1 2) 1 5 (filter (Addr 0 4095) ∷ [])) ≡ Err (BadFilter 0)
byte_off_a_page_is_refused = refl

-- a quota with a time and this reset interval, and nothing else that may be refused
abbrev timed : ℕ → Scheme
timed reset = record (scheme (span 1 2) 1 5 []) { quota = Some (record { bytes = 0; reset = reset; time = Some 7 }) }

no_time_in_one : checked_in One 0 (timed 1) ≡ Err TimeInOne
no_time_in_one = refl

time_comes_last : checked_in One 0 (timed 0) ≡ Err ZeroReset
time_comes_last = refl

time_in_two : checked_in Two 0 (timed 1) ≡ Ok tt
time_in_two = refl

-- ---- how often a stream was called

-- a call that fails, and one after it: two calls, one failure, one call too late
called_after_a_failure : after_call false (after_call true no_calls) ≡ record { made = 2; failed = 1; late = 1 }
called_after_a_failure = refl

-- a run that makes a call after one that failed does not end at the fault
does_not_end_at_the_fault : EndsAtFault (Unit {0}) no_calls (after_call false (after_call true no_calls)) → ⊥
does_not_end_at_the_fault ends = let late : 1 ≡ 0 = ends.late refl in cc late
