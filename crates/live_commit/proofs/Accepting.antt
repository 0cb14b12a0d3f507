-- What the checks of a commit say of its parts, and those of a setup of its slots.
use Rattle.std.proofs.Common.{◌≡◌, ℕ, ◌<◌, ◌≤◌, Bool, List, [], ◌∷◌, ◌++◌, length, Ok, Err, Some, None, refl, subst, arith}
use Rattle.std.specs.List.{AllByRecursion}
use Rattle.std.specs.Prelude.{nat_lt, if◌then◌else◌, IsSome, Option, Result}
use Rattle.std.proofs.lemmas.List.Elements.{recursion_from_All}
use Rattle.std.proofs.lemmas.Bool.Decides.{nat_tests}
use Rattle.damon_types.specs.Faults.{fault_as}
use Rattle.damon_types.specs.declared.attrs.Attrs.{Attrs}
use Rattle.damon_types.specs.declared.range.RangeSpec.{RangeSpec}
use Rattle.damon_types.specs.declared.scheme.Scheme.{Scheme}
use Rattle.damon_types.specs.declared.scheme.SchemeFault.{SchemeFault}
use Rattle.damon_types.specs.declared.scheme.Version.{Version}
use Rattle.damon_types.specs.declared.scheme.Version.TheVariants.{One, Two}
use Rattle.damon_types.specs.declared.scheme.CostPart.{CostPart}
use Rattle.damon_types.specs.declared.scheme.SlotChange.{SlotChange}
use Rattle.damon_types.specs.declared.scheme.TheConstants.{MAX_SLOT}
use Rattle.damon_types.specs.declared.space.Target.{Target}
use Rattle.damon_types.specs.Attrs.{IsAttrs, checked_attrs}
use Rattle.damon_types.specs.Scheme.{checked_in, checked_scheme, checked_time}
use Rattle.damon_types.proofs.Lemmas.{both_ok, fault_as_ok}
use Rattle.target_ranges.specs.declared.fault.RangeFault.{RangeFault}
use Rattle.target_ranges.specs.Checked.{checked_ranges}
use Rattle.live_commit.specs.declared.fault.SetupFault.TheVariants.{BadScheme as BadSlot, RepeatedSlot}
use Rattle.live_commit.specs.declared.fault.CommitFault.{CommitFault}
use Rattle.live_commit.specs.declared.fault.CommitFault.TheVariants.{BadAttrs, BadRange, BadScheme, OverCap}
use Rattle.live_commit.specs.declared.phase.Phase.{Phase}
use Rattle.live_commit.specs.declared.phase.Phase.TheVariants.{Idle, Clearing, Armed, Checking, Void, Due}
use Rattle.live_commit.specs.declared.view.View.{View}
use Rattle.live_commit.specs.Accepted.{AllowsCommit, IsAccepted}
use Rattle.live_commit.specs.Accepts.{checked_commit, checked_cost, checked_new_attrs, checked_new_ranges, checked_for_slot, checked_new_slot, checked_number, checked_phase, max_after, ranges_after}
use Rattle.live_commit.specs.Commit.{CommitValue}
use Rattle.live_commit.specs.Setup.{SetupValue, IsSetup}
use Rattle.live_commit.specs.Slots.{checked_after, checked_set, checked_slot, is_set}
use Rattle.live_commit.proofs.Limits.{attrs_kept}

phase_allows : (phase : Phase) (rows : ℕ) → checked_phase phase rows ≡ Ok tt → AllowsCommit phase
phase_allows Idle rows ok = tt
phase_allows (Clearing next) rows ok = absurd (cc)
phase_allows Armed rows ok = tt
phase_allows (Checking next) rows ok = absurd (cc)
phase_allows Void rows ok = tt
phase_allows Due rows ok = tt

ranges_accepted :
    (space : List Target) (unit cap : ℕ) (specs : List RangeSpec) → checked_new_ranges space unit cap (Some specs) ≡ Ok tt
    → (0 < length specs) × (checked_ranges space unit cap specs ≡ Ok tt)
ranges_accepted space unit cap specs ok =
    let fault : RangeFault → CommitFault = λ f. BadRange f.index f.why in
    let some : 0 < length specs = grind (arith, nat_tests) in
    let each : fault_as fault (checked_ranges space unit cap specs) ≡ Ok tt = grind (arith, nat_tests) in
    (some, fault_as_ok fault (checked_ranges space unit cap specs) each)

number_fits : (ranges max : ℕ) → checked_number ranges max ≡ Ok tt → ranges ≤ max
number_fits ranges max ok = grind (arith, nat_tests)

max_fits : (max cap : ℕ) → (if nat_lt cap max then Err (OverCap max cap) else Ok (tt {0})) ≡ Ok tt → max ≤ cap
max_fits max cap ok = grind (arith, nat_tests)

attrs_accepted : (cap : ℕ) (a : Attrs) → checked_new_attrs cap (Some a) ≡ Ok tt → IsAttrs a × (a.max ≤ cap)
attrs_accepted cap a ok =
    let both = both_ok (fault_as BadAttrs (checked_attrs a)) (if nat_lt cap a.max then Err (OverCap a.max cap) else Ok tt) ok in
    (attrs_kept a (fault_as_ok BadAttrs (checked_attrs a) both.0), max_fits a.max cap both.1)

-- a scheme that is accepted for a slot, and a slot change that is accepted, name a slot that exists
scheme_slot : (slot : ℕ) (s : Scheme) → checked_scheme slot s ≡ Ok tt → slot ≤ MAX_SLOT
scheme_slot slot s ok = grind (arith, nat_tests)

scheme_in_slot : (version : Version) (slot : ℕ) (s : Scheme) → checked_in version slot s ≡ Ok tt → slot ≤ MAX_SLOT
scheme_in_slot version slot s ok = scheme_slot slot s (both_ok (checked_scheme slot s) (checked_time version s.quota) ok).0

slot_accepted : (version : Version) (slot : ℕ) (scheme : Option Scheme) → checked_for_slot version slot scheme ≡ Ok tt → slot ≤ MAX_SLOT
slot_accepted version slot None ok = grind (arith, nat_tests)
slot_accepted version slot (Some s) ok = scheme_in_slot version slot s ok

change_accepted : (version : Version) (change : SlotChange) → checked_new_slot version (Some change) ≡ Ok tt → change.slot ≤ MAX_SLOT
change_accepted version change ok = slot_accepted version change.slot change.scheme (fault_as_ok BadScheme (checked_for_slot version change.slot change.scheme) ok)

cost_accepted : (version : Version) (part : CostPart) → checked_cost version (Some part) ≡ Ok tt → (version ≡ Two) × (part.slot ≤ MAX_SLOT)
cost_accepted One part ok = absurd (cc)
cost_accepted Two part ok = (refl, grind (arith, nat_tests))

scheme_fault_ok : (index : ℕ) (r : Result (Unit {0}) SchemeFault) → (fault_as (BadSlot index) r) ≡ Ok tt → r ≡ Ok tt
scheme_fault_ok index (Ok t) ok = refl
scheme_fault_ok index (Err why) ok = absurd (cc)

set_accepted : (version : Version) (index : ℕ) (set : Bool) (slot : ℕ) (scheme : Option Scheme) → IsSome scheme → checked_set version index set slot scheme ≡ Ok tt → slot ≤ MAX_SLOT
set_accepted version index set slot None some ok = absurd (cc some)
set_accepted version index set slot (Some s) some ok =
    scheme_in_slot version slot s (scheme_fault_ok index (checked_in version slot s) (both_ok (fault_as (BadSlot index) (checked_in version slot s)) (if set then Err (RepeatedSlot index) else Ok tt) ok).0)

slots_accepted : (version : Version) (before changes : List SlotChange) → AllByRecursion (λ c. IsSome c.scheme) changes → checked_after version before changes ≡ Ok tt → AllByRecursion (λ c. c.slot ≤ MAX_SLOT) changes
slots_accepted version before [] set ok = tt
slots_accepted version before (c ∷ changes) set ok =
    let both = both_ok (checked_slot version (length before) before c) (checked_after version (before ++ c ∷ []) changes) ok in
    (set_accepted version (length before) (is_set c.slot before) c.slot c.scheme set.0 both.0, slots_accepted version (before ++ c ∷ []) changes set.1 both.1)

pub setup_accepted : (v : SetupValue) → IsSetup v → AllByRecursion (λ c. c.slot ≤ MAX_SLOT) v.slots
setup_accepted v is = slots_accepted v.version [] v.slots (recursion_from_All (λ (c : SlotChange). IsSome c.scheme) v.slots is.set) is.slots

pub commit_accepted :
    (space : List Target) (v : View) (c : CommitValue) → checked_commit space v c ≡ Ok tt → IsAccepted space v c
commit_accepted space v c ok =
    let phase = both_ok (checked_phase v.phase v.rows) _ ok in
    let ranges = both_ok (checked_new_ranges space v.unit v.cap c.ranges) _ phase.1 in
    let number = both_ok (checked_number (ranges_after c.ranges v.ranges) (max_after c.attrs v.max)) _ ranges.1 in
    let attrs = both_ok (checked_new_attrs v.cap c.attrs) _ number.1 in
    let slot = both_ok (checked_new_slot v.version c.slot) (checked_cost v.version c.cost) attrs.1 in
    let Ranges : Option (List RangeSpec) → Type 0 = λ o. checked_new_ranges space v.unit v.cap o ≡ Ok tt in
    let Given : Option Attrs → Type 0 = λ o. checked_new_attrs v.cap o ≡ Ok tt in
    let Costs : Option CostPart → Type 0 = λ o. checked_cost v.version o ≡ Ok tt in
    let Changed : Option SlotChange → Type 0 = λ o. checked_new_slot v.version o ≡ Ok tt in
    record {
      phase = phase_allows v.phase v.rows phase.0;
      attrs = λ a given. attrs_accepted v.cap a (subst Given given attrs.0);
      ranges = λ specs given. ranges_accepted space v.unit v.cap specs (subst Ranges given ranges.0);
      few = number_fits (ranges_after c.ranges v.ranges) (max_after c.attrs v.max) number.0;
      slot = λ change given. change_accepted v.version change (subst Changed given slot.0);
      cost = λ part given. cost_accepted v.version part (subst Costs given slot.1);
    }
