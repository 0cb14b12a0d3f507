-- What a spec keeps against which there is no reason.
use Rattle.std.proofs.Common.{◌≡◌, ℕ, ◌≤◌, ◌<◌, true, false, not, List, Ok, Err, Some, None, refl, arith, if◌then◌else◌}
use Rattle.std.proofs.lemmas.Bool.Decides.{nat_tests}
use Rattle.std.specs.Prelude.{Bool, Option, Result, slice_get, nat_le, nat_lt, ◌&&◌, ◌==◌, ◌%◌, ◌*◌, ◌+◌}
use Rattle.damon_types.specs.declared.space.Target.{Target}
use Rattle.damon_types.specs.declared.range.RangeSpec.{RangeSpec}
use Rattle.target_ranges.specs.declared.fault.RangeWhy.TheVariants.{TooMany, Unaligned, Reversed, OutsideSpan, TooSmall, BadClass, Overlap}
use Rattle.target_ranges.specs.Checked.{checked_within, checked_range, overlaps}
use Rattle.target_ranges.specs.Made.{IsPlaced, page_count}

-- a spec within its limits, after the one before it
pub record IsAccepted (ts : List Target) (unit : ℕ) (before : Option RangeSpec) (s : RangeSpec) : Type 0 where
  pub placed : IsPlaced ts s
  pub wide : unit ≤ page_count s
  pub class : s.class ≤ 15
  pub apart : overlaps before s ≡ false

-- a test that refuses did not hold
passed : {E : Type 0} (test : Bool) (e : E) (rest : Result (Unit {0}) E) → (if test then Err e else rest) ≡ Ok tt → (test ≡ false) × (rest ≡ Ok tt)
passed true e rest ok = absurd (cc)
passed false e rest ok = (refl, ok)

accepted_in : (ts : List Target) (unit : ℕ) (before : Option RangeSpec) (s : RangeSpec) (found : Option Target) → slice_get ts s.target ≡ found → checked_within unit before s found ≡ Ok tt → IsAccepted ts unit before s
accepted_in ts unit before s None is ok = absurd (cc)
accepted_in ts unit before s (Some t) is ok =
    let aligned = passed (not ((s.from % 4096 == 0) && (s.to % 4096 == 0))) Unaligned _ ok in
    let some = passed (nat_le s.to s.from) Reversed _ aligned.1 in
    let inside = passed (not (nat_le t.base s.from && nat_le s.to (t.base + 4096 * t.pages))) OutsideSpan _ some.1 in
    let wide = passed (nat_lt (page_count s) unit) TooSmall _ inside.1 in
    let class = passed (nat_lt 15 s.class) BadClass _ wide.1 in
    let apart = passed (overlaps before s) Overlap _ class.1 in
    record {
      placed = record {
        place = t;
        there = is;
        begins = grind (arith, nat_tests, aligned.0);
        ends = grind (arith, nat_tests, aligned.0);
        some = grind (arith, nat_tests, some.0);
        low = grind (arith, nat_tests, inside.0);
        high = grind (arith, nat_tests, inside.0);
      };
      wide = grind (arith, nat_tests, wide.0);
      class = grind (arith, nat_tests, class.0);
      apart = apart.0;
    }

-- a spec without a reason against it
pub accepted : (ts : List Target) (unit room index : ℕ) (before : Option RangeSpec) (s : RangeSpec) → checked_range ts unit room index before s ≡ Ok tt → (index < room) × IsAccepted ts unit before s
accepted ts unit room index before s ok =
    let few = passed (nat_le room index) TooMany _ ok in
    (grind (arith, nat_tests, few.0), accepted_in ts unit before s (slice_get ts s.target) refl few.1)
