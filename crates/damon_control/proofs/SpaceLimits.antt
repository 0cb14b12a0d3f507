-- Targets that are accepted, and ranges that are accepted in them, keep the limits of a space and of a setup.
use Rattle.std.proofs.Common.{◌≡◌, ℕ, zero, suc, ◌+◌, ◌-◌, ◌^◌, ◌≤◌, ◌<◌, ◌==◌, Bool, true, false, nat_le, nat_lt, List, [], ◌∷◌, ◌++◌, length, Ok, Err, Some, refl, subst, arith}
use Rattle.std.specs.Prelude.{All, Option, Result, slice_get, if◌then◌else◌}
use Rattle.std.specs.List.{AllByRecursion}
use Rattle.std.proofs.lemmas.Bool.Decides.{nat_tests}
use Rattle.std.proofs.lemmas.List.{length-append}
use Rattle.std.proofs.lemmas.List.Elements.{All-from_recursion}
use Rattle.std.proofs.lemmas.List.Sums.{sum_by-append}
use Rattle.std.proofs.lemmas.Option.{slice_get_within}
use Rattle.damon_types.specs.declared.range.Range.{Range}
use Rattle.damon_types.specs.declared.range.RangeSpec.{RangeSpec}
use Rattle.damon_types.specs.declared.space.SpaceFault.TheVariants.{NoTarget, TooManyTargets, TooManyPages}
use Rattle.damon_types.specs.declared.space.Target.{Target}
use Rattle.damon_types.specs.Space.{IsSpace, IsTarget, checked, checked_targets_from, checked_target, pages_of}
use Rattle.damon_types.specs.Within.{LiesInTarget}
use Rattle.damon_types.proofs.Lemmas.{both_ok}
use Rattle.target_ranges.specs.Checked.{checked_range, checked_ranges}
use Rattle.target_ranges.specs.Made.{ranges_of}
use Rattle.target_ranges.proofs.Lemmas.{each_made, is_good, made_wide, made_within}
use Rattle.script_lines.specs.Fits.{FitsRange}

-- a test that refuses did not hold
passed : {E : Type 0} (test : Bool) (e : E) (rest : Result (Unit {0}) E) → (if test then Err e else rest) ≡ Ok tt → (test ≡ false) × (rest ≡ Ok tt)
passed true e rest ok = absurd cc
passed false e rest ok = (refl, ok)

-- a test that allows did hold
allowed : {E : Type 0} (test : Bool) (e : E) → ◌≡◌ {A = Result (Unit {0}) E} (if test then Ok tt else Err e) (Ok tt) → test ≡ true
allowed true e ok = refl
allowed false e ok = absurd cc

-- ---- targets

accepted-IsTarget : (i : ℕ) (t : Target) → checked_target i t ≡ Ok tt → IsTarget t
accepted-IsTarget i t ok = record {
  some = grind (arith, nat_tests);
  few = grind (arith, nat_tests);
  aligned = grind (arith, nat_tests);
  end = grind (arith, nat_tests);
}

pub each_target : (i : ℕ) (ts : List Target) → checked_targets_from i ts ≡ Ok tt → AllByRecursion IsTarget ts
each_target i [] ok = tt
each_target i (t ∷ ts) ok =
    let both = both_ok (checked_target i t) (checked_targets_from (i + 1) ts) ok in
    (accepted-IsTarget i t both.0, each_target (i + 1) ts both.1)

pub target_there : (ts : List Target) (i : ℕ) (t : Target) → AllByRecursion IsTarget ts → slice_get ts i ≡ Some t → IsTarget t
target_there [] i t each is = absurd cc
target_there (u ∷ us) zero t each is = let same : u ≡ t = cc in subst IsTarget same each.0
target_there (u ∷ us) (suc i) t each is = target_there us i t each.1 is

-- what the three checks of targets find
record Accepted (ts : List Target) : Type 0 where
  some : (length ts == 0) ≡ false
  few : nat_lt 64 (length ts) ≡ false
  each : checked_targets_from 0 ts ≡ Ok tt
  total : nat_le (pages_of ts) 1048576 ≡ true

targets_accepted : (ts : List Target) → checked ts ≡ Ok tt → Accepted ts
targets_accepted ts ok =
    let some = passed (length ts == 0) NoTarget _ ok in
    let few = passed (nat_lt 64 (length ts)) (TooManyTargets (length ts)) _ some.1 in
    let both = both_ok (checked_targets_from 0 ts) _ few.1 in
    record { some = some.0; few = few.0; each = both.0; total = allowed (nat_le (pages_of ts) 1048576) (TooManyPages (pages_of ts)) both.1 }

-- accepted targets are a space
pub checked-IsSpace : (ts : List Target) → checked ts ≡ Ok tt → IsSpace ts
checked-IsSpace ts ok =
    let found = targets_accepted ts ok in
    record {
      some = grind (arith, nat_tests, found.some);
      few = grind (arith, nat_tests, found.few);
      each = All-from_recursion IsTarget ts (each_target 0 ts found.each);
      total = grind (arith, nat_tests, found.total);
    }

-- and so is each of them
pub each_accepted : (ts : List Target) → checked ts ≡ Ok tt → AllByRecursion IsTarget ts
each_accepted ts ok = each_target 0 ts (targets_accepted ts ok).each

each_before : (i : ℕ) (front back : List Target) → checked_targets_from i (front ++ back) ≡ Ok tt → checked_targets_from i front ≡ Ok tt
each_before i [] back ok = refl
each_before i (t ∷ front) back ok =
    let both = both_ok (checked_target i t) (checked_targets_from (i + 1) (front ++ back)) ok in
    rw both.0 (each_before (i + 1) front back both.1)

accepted-checked : (ts : List Target) → Accepted ts → checked ts ≡ Ok tt
accepted-checked ts found = rw (found.some, found.few, found.each, found.total) refl

-- the first of accepted targets are accepted
pub checked_before : (front back : List Target) → 1 ≤ length front → checked (front ++ back) ≡ Ok tt → checked front ≡ Ok tt
checked_before front back some ok =
    let found = targets_accepted (front ++ back) ok in
    let length_is = length-append front back in
    let pages_are = sum_by-append (λ (t : Target). t.pages) front back in
    let few : length (front ++ back) ≤ 64 = grind (arith, nat_tests, found.few) in
    let total : pages_of (front ++ back) ≤ 1048576 = grind (arith, nat_tests, found.total) in
    let few_first : length front ≤ 64 = omega (arith, few, length_is) in
    let total_first : pages_of front ≤ 1048576 = omega (arith, total, pages_are) in
    accepted-checked front (record {
      some = grind (arith, nat_tests);
      few = grind (arith, nat_tests);
      each = each_before 0 front back found.each;
      total = grind (arith, nat_tests);
    })

-- ---- ranges

-- an accepted range is within its fields
pub accepted-FitsRange : (ts : List Target) (unit cap index : ℕ) (before : Option RangeSpec) (s : RangeSpec) → checked ts ≡ Ok tt → checked_range ts unit cap index before s ≡ Ok tt → FitsRange s
accepted-FitsRange ts unit cap index before s sound ok =
    let found = targets_accepted ts sound in
    let range = is_good ts unit cap index before s ok in
    let target = target_there ts s.target range.placed.place (each_target 0 ts found.each) range.placed.there in
    let few : length ts ≤ 64 = grind (arith, nat_tests, found.few) in
    let there : s.target < length ts = slice_get_within ts s.target range.placed.place range.placed.there in
    let end : s.to ≤ 2 ^ 63 = omega (arith, range.placed.high, target.end) in
    (omega (arith, there, few), omega (arith, range.placed.some, end), omega (arith, end), omega (arith, range.class))

-- the ranges that are made of accepted ones: wide enough, of a class, and in their targets
pub record AreMade (ts : List Target) (unit : ℕ) (ranges : List Range) : Type 0 where
  pub wide : All (λ g. unit ≤ g.pages) ranges
  pub classes : All (λ g. g.class ≤ 15) ranges
  pub within : All (LiesInTarget ts) ranges

pub accepted-AreMade : (ts : List Target) (unit cap : ℕ) (specs : List RangeSpec) → checked_ranges ts unit cap specs ≡ Ok tt → AreMade ts unit (ranges_of ts specs)
accepted-AreMade ts unit cap specs ok = record {
  wide = made_wide ts unit cap specs ok;
  classes = each_made ts unit cap specs (λ (g : Range). g.class ≤ 15) (λ s good. good.class) ok;
  within = made_within ts unit cap specs ok;
}
