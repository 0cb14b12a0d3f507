-- What the checks of a setup say of its parts.
use Rattle.std.proofs.Common.{◌≡◌, ℕ, ◌≤◌, List, length, Ok, Err, refl, arith}
use Rattle.std.specs.Prelude.{nat_lt, if◌then◌else◌, Result}
use Rattle.std.proofs.lemmas.Bool.Decides.{nat_tests}
use Rattle.std.specs.Result.{result_and}
use Rattle.damon_types.specs.Faults.{fault_as}
use Rattle.damon_types.specs.declared.attrs.Attrs.{Attrs}
use Rattle.damon_types.specs.declared.range.RangeSpec.{RangeSpec}
use Rattle.damon_types.specs.declared.space.Target.{Target}
use Rattle.damon_types.specs.declared.attrs.AttrsFault.{AttrsFault}
use Rattle.damon_types.specs.declared.scheme.Version.{Version}
use Rattle.damon_types.specs.declared.scheme.SlotChange.{SlotChange}
use Rattle.damon_types.specs.Attrs.{IsAttrs, checked_attrs}
use Rattle.damon_types.proofs.Lemmas.{both_ok, fault_as_ok}
use Rattle.target_ranges.specs.declared.fault.RangeFault.{RangeFault}
use Rattle.live_commit.specs.declared.fault.SetupFault.TheVariants.{BadAttrs, BadRange, OverCap}
use Rattle.live_commit.specs.Slots.{checked_slots}
use Rattle.target_ranges.specs.Checked.{checked_ranges}
use Rattle.live_commit.specs.Checked.{checked_cap, checked_count, checked_limits, checked_setup, checked_unit, checked_watched}

unit_kept : (unit : ℕ) → checked_unit unit ≡ Ok tt → (1 ≤ unit) × (unit ≤ 1048576)
unit_kept unit ok = (grind (arith, nat_tests), grind (arith, nat_tests))

cap_kept : (cap : ℕ) → checked_cap cap ≡ Ok tt → (3 ≤ cap) × (cap ≤ 4096)
cap_kept cap ok = (grind (arith, nat_tests), grind (arith, nat_tests))

max_kept : (max cap : ℕ) → (if nat_lt cap max then Err (OverCap max cap) else Ok (tt {0})) ≡ Ok tt → max ≤ cap
max_kept max cap ok = grind (arith, nat_tests)

count_kept : (ranges max : ℕ) → checked_count ranges max ≡ Ok tt → ranges ≤ max
count_kept ranges max ok = grind (arith, nat_tests)

pub attrs_kept : (a : Attrs) → checked_attrs a ≡ Ok tt → IsAttrs a
attrs_kept a ok = record {
  min = grind (arith, nat_tests);
  max = grind (arith, nat_tests);
  aggr_some = grind (arith, nat_tests);
  aggr_most = grind (arith, nat_tests);
}

-- the limits of the numbers
pub record AreLimits (unit cap : ℕ) (a : Attrs) : Type 0 where
  pub unit_some : 1 ≤ unit
  pub unit_most : unit ≤ 1048576
  pub cap_some : 3 ≤ cap
  pub cap_most : cap ≤ 4096
  pub attrs : IsAttrs a
  pub checked : checked_attrs a ≡ Ok tt
  pub max_cap : a.max ≤ cap

pub limits_kept : (unit cap : ℕ) (a : Attrs) → checked_limits unit cap a ≡ Ok tt → AreLimits unit cap a
limits_kept unit cap a ok =
    let first = both_ok (checked_unit unit) _ ok in
    let second = both_ok (checked_cap cap) _ first.1 in
    let third = both_ok (fault_as BadAttrs (checked_attrs a)) (if nat_lt cap a.max then Err (OverCap a.max cap) else Ok tt) second.1 in
    let units = unit_kept unit first.0 in
    let caps = cap_kept cap second.0 in
    let attrs = fault_as_ok BadAttrs (checked_attrs a) third.0 in
    record {
      unit_some = units.0;
      unit_most = units.1;
      cap_some = caps.0;
      cap_most = caps.1;
      attrs = attrs_kept a attrs;
      checked = attrs;
      max_cap = max_kept a.max cap third.1;
    }

-- the ranges, and their number
pub watched_kept : (space : List Target) (unit cap max : ℕ) (specs : List RangeSpec) → checked_watched space unit cap max specs ≡ Ok tt → (1 ≤ length specs) × (length specs ≤ max) × (checked_ranges space unit cap specs ≡ Ok tt)
watched_kept space unit cap max specs ok =
    let some : 1 ≤ length specs = grind (arith, nat_tests) in
    let rest : result_and (fault_as (λ (f : RangeFault). BadRange f.index f.why) (checked_ranges space unit cap specs)) (checked_count (length specs) max) ≡ Ok tt = grind (arith, nat_tests) in
    let both = both_ok (fault_as (λ (f : RangeFault). BadRange f.index f.why) (checked_ranges space unit cap specs)) (checked_count (length specs) max) rest in
    (some, count_kept (length specs) max both.1, fault_as_ok (λ (f : RangeFault). BadRange f.index f.why) (checked_ranges space unit cap specs) both.0)

-- the three checks of a setup
pub record AreChecked (version : Version) (space : List Target) (unit cap : ℕ) (a : Attrs) (specs : List RangeSpec) (slots : List SlotChange) : Type 0 where
  pub limits : checked_limits unit cap a ≡ Ok tt
  pub watched : checked_watched space unit cap a.max specs ≡ Ok tt
  pub slots_ok : checked_slots version slots ≡ Ok tt

pub setup_checked : (version : Version) (space : List Target) (unit cap : ℕ) (a : Attrs) (specs : List RangeSpec) (slots : List SlotChange) → checked_setup version space unit cap a specs slots ≡ Ok tt → AreChecked version space unit cap a specs slots
setup_checked version space unit cap a specs slots ok =
    let first = both_ok (checked_limits unit cap a) (result_and (checked_watched space unit cap a.max specs) (checked_slots version slots)) ok in
    let second = both_ok (checked_watched space unit cap a.max specs) (checked_slots version slots) first.1 in
    record { limits = first.0; watched = second.0; slots_ok = second.1 }
