-- The numbers of the answer of a call are within their types.
use Rattle.std.proofs.Common.{◌≡◌, ◌⊎◌, inl, inr, ⊎_elim, ℕ, ◌+◌, ◌^◌, ◌≤◌, ◌<◌, Bool, true, false, List, [], ◌∷◌, length, Option, Some, None, Ok, Err, refl, sym, ap, ◌∙◌, subst, arith}
use Rattle.std.specs.Prelude.{◌==◌, nat_le, nat_lt, if◌then◌else◌, slice_get, IfSome, Result}
use Rattle.std.specs.Result.{result_and}
use Rattle.std.proofs.lemmas.Bool.Decides.{nat_tests}
use Rattle.damon_types.specs.Faults.{fault_as}
use Rattle.damon_types.specs.declared.attrs.Attrs.{Attrs}
use Rattle.damon_types.specs.declared.attrs.AttrsFault.{AttrsFault}
use Rattle.damon_types.specs.declared.range.RangeSpec.{RangeSpec}
use Rattle.damon_types.specs.declared.scheme.CostPart.{CostPart}
use Rattle.damon_types.specs.declared.scheme.SchemeFault.{SchemeFault}
use Rattle.damon_types.specs.declared.scheme.SlotChange.{SlotChange}
use Rattle.damon_types.specs.declared.scheme.Version.{Version}
use Rattle.damon_types.specs.declared.scheme.Version.TheVariants.{One, Two}
use Rattle.damon_types.specs.declared.space.Target.{Target}
use Rattle.damon_types.specs.Attrs.{checked_attrs}
use Rattle.target_ranges.specs.declared.fault.RangeFault.{RangeFault}
use Rattle.target_ranges.specs.declared.fault.RangeWhy.{RangeWhy}
use Rattle.target_ranges.specs.declared.fault.RangeWhy.TheVariants.{TooMany}
use Rattle.target_ranges.specs.Checked.{checked_from, checked_range, checked_ranges, checked_within, fault_at}
use Rattle.script_lines.specs.Fits.{FitsAttrs, FitsCost}
use Rattle.live_commit.specs.declared.fault.CommitFault.{CommitFault}
use Rattle.live_commit.specs.declared.fault.CommitFault.TheVariants.{BadAttrs, BadCost, BadRange, BadScheme, NoRange, OverCap, RangesOverMax}
use Rattle.live_commit.specs.declared.phase.Phase.{Phase}
use Rattle.live_commit.specs.declared.phase.Phase.TheVariants.{Idle, Clearing, Armed, Checking, Void, Due}
use Rattle.live_commit.specs.Accepts.{checked_cost, checked_for_slot, checked_new_attrs, checked_new_ranges, checked_new_slot, checked_number, checked_phase, max_after, ranges_after}
use Rattle.live_commit.specs.Commit.{CommitValue}
use Rattle.damon_core.specs.Commit.{changed_by, check_of, committed, committed_core, if_accepted}
use Rattle.damon_core.specs.Reached.{run}
use Rattle.damon_core.specs.State.{Core, State, row_count}
use Rattle.damon_control.specs.Live.{CallValue, CommitCall, ShowCall}
use Rattle.damon_control.specs.Spellable.{FitsCall}
use Rattle.damon_control.specs.WriteBack.{FitsCommit}
use Rattle.run_journal.specs.Phases.{IsFree}
use Rattle.run_journal.specs.Replay.{answer_of, call_answer, call_event}
use Rattle.run_journal.specs.Limits.{AnswerFits, FaultFits}
use Rattle.run_journal.proofs.Sizes.{IsWithin}
use Rattle.target_ranges.proofs.Lemmas.{checked_ranges-room}

-- the first of two checks fails, or the second does
first_or_second : {E : Type 0} (r s : Result (Unit {0}) E) (e : E) → result_and r s ≡ Err e → (r ≡ Err e) ⊎ ((r ≡ Ok tt) × (s ≡ Err e))
first_or_second (Ok t) s e is = inr (refl, is)
first_or_second (Err f) s e is = inl is

-- a check that fails
abbrev failed : CommitFault → Result (Unit {0}) CommitFault
failed e = Err e

same_fault : (e fault : CommitFault) → failed e ≡ Err fault → e ≡ fault
same_fault e fault is = cc

-- ---- the checks of a commit

not_busy : (ph : Phase) (rows : ℕ) (fault : CommitFault) → IsFree ph → checked_phase ph rows ≡ Err fault → ⊥
not_busy Idle rows fault free is = cc
not_busy Armed rows fault free is = cc
not_busy Void rows fault free is = cc
not_busy (Clearing k) rows fault free is = free
not_busy (Checking k) rows fault free is = free
not_busy Due rows fault free is = free

fault_at-index : (index : ℕ) (r : Result (Unit {0}) RangeWhy) (fault : RangeFault) → fault_at index r ≡ Err fault → fault.index ≡ index
fault_at-index index (Ok t) fault is = absurd cc
fault_at-index index (Err why) fault is = let same : record { index = index; why = why } ≡ fault = cc in ap (λ (f : RangeFault). f.index) (sym same)

below_cap : (ts : List Target) (unit cap index : ℕ) (before : Option RangeSpec) (s : RangeSpec) (t : Result (Unit {0}) RangeWhy) → checked_range ts unit cap index before s ≡ t → fault_at index t ≡ Ok tt → index < cap
below_cap ts unit cap index before s (Err why) is ok = absurd cc
below_cap ts unit cap index before s (Ok t) is ok = by_test (nat_le cap index) refl is
  where
    by_test : (b : Bool) → nat_le cap index ≡ b → (if b then Err TooMany else checked_within unit before s (slice_get ts s.target)) ≡ Ok t → index < cap
    by_test true there is = absurd cc
    by_test false there is = grind (arith, nat_tests)

-- a range that is rejected has at most `cap` before it
index_few : (ts : List Target) (unit cap index : ℕ) (before : Option RangeSpec) (specs : List RangeSpec) (fault : RangeFault) → index ≤ cap → checked_from ts unit cap index before specs ≡ Err fault → fault.index ≤ cap
index_few ts unit cap index before [] fault few is = absurd cc
index_few ts unit cap index before (s ∷ specs) fault few is = ⊎_elim
    (λ (first : fault_at index (checked_range ts unit cap index before s) ≡ Err fault). (let at = fault_at-index index (checked_range ts unit cap index before s) fault first in omega (arith, at, few)))
    (λ (later : (fault_at index (checked_range ts unit cap index before s) ≡ Ok tt) × (checked_from ts unit cap (index + 1) (Some s) specs ≡ Err fault)). (
    let room = below_cap ts unit cap index before s (checked_range ts unit cap index before s) refl later.0 in
    index_few ts unit cap (index + 1) (Some s) specs fault (omega (arith, room)) later.1
    ))
    (first_or_second (fault_at index (checked_range ts unit cap index before s)) (checked_from ts unit cap (index + 1) (Some s) specs) fault is)

range_fault_fits : (cap : ℕ) (r : Result (Unit {0}) RangeFault) (fault : CommitFault) → cap ≤ 4096 → ((f : RangeFault) → r ≡ Err f → f.index ≤ cap) → fault_as (λ f. BadRange f.index f.why) r ≡ Err fault → FaultFits fault
range_fault_fits cap (Ok t) fault small few is = absurd cc
range_fault_fits cap (Err f) fault small few is =
    let at = few f refl in
    subst FaultFits (same_fault (BadRange f.index f.why) fault is) (omega (arith, at, small))

ranges_refused : (space : List Target) (unit cap : ℕ) (ranges : Option (List RangeSpec)) (fault : CommitFault) → cap ≤ 4096 → checked_new_ranges space unit cap ranges ≡ Err fault → FaultFits fault
ranges_refused space unit cap None fault small is = absurd cc
ranges_refused space unit cap (Some specs) fault small is = by_test (length specs == 0) is
  where
    by_test : (b : Bool) → (if b then Err NoRange else fault_as (λ (f : RangeFault). BadRange f.index f.why) (checked_ranges space unit cap specs)) ≡ Err fault → FaultFits fault
    by_test true is = subst FaultFits (same_fault NoRange fault is) tt
    by_test false is = range_fault_fits cap (checked_ranges space unit cap specs) fault small (λ f there. index_few space unit cap 0 None specs f (omega arith) there) is

fault_as-ok : {E : Type 0} (as_fault : E → CommitFault) (r : Result (Unit {0}) E) → fault_as as_fault r ≡ Ok tt → r ≡ Ok tt
fault_as-ok as_fault (Ok t) ok = refl
fault_as-ok as_fault (Err why) ok = absurd cc

ranges_few : (space : List Target) (unit cap now : ℕ) (ranges : Option (List RangeSpec)) → checked_new_ranges space unit cap ranges ≡ Ok tt → now ≤ cap → ranges_after ranges now ≤ cap
ranges_few space unit cap now None ok few = few
ranges_few space unit cap now (Some specs) ok few = by_test (length specs == 0) ok
  where
    by_test : (b : Bool) → (if b then Err NoRange else fault_as (λ (f : RangeFault). BadRange f.index f.why) (checked_ranges space unit cap specs)) ≡ Ok tt → length specs ≤ cap
    by_test true ok = absurd cc
    by_test false ok = checked_ranges-room space unit cap specs (fault_as-ok (λ (f : RangeFault). BadRange f.index f.why) (checked_ranges space unit cap specs) ok)

number_refused : (ranges max : ℕ) (fault : CommitFault) → ranges < 2 ^ 64 → max < 2 ^ 64 → checked_number ranges max ≡ Err fault → FaultFits fault
number_refused ranges max fault few fits is = by_test (nat_lt max ranges) is
  where
    by_test : (b : Bool) → (if b then Err (RangesOverMax ranges max) else Ok (tt {0})) ≡ Err fault → FaultFits fault
    by_test true is = subst FaultFits (same_fault (RangesOverMax ranges max) fault is) (few, fits)
    by_test false is = absurd cc

max_fits : (attrs : Option Attrs) (now : ℕ) → IfSome attrs FitsAttrs → now ≤ 4096 → max_after attrs now < 2 ^ 64
max_fits None now fits few = omega (arith, few)
max_fits (Some a) now fits few = let max = fits.1 in omega (arith, max)

attrs_refused : (cap : ℕ) (attrs : Option Attrs) (fault : CommitFault) → cap ≤ 4096 → IfSome attrs FitsAttrs → checked_new_attrs cap attrs ≡ Err fault → FaultFits fault
attrs_refused cap None fault small fits is = absurd cc
attrs_refused cap (Some a) fault small fits is = ⊎_elim
    (λ (first : fault_as BadAttrs (checked_attrs a) ≡ Err fault). by_attrs (checked_attrs a) first)
    (λ (later : (fault_as BadAttrs (checked_attrs a) ≡ Ok tt) × ((if nat_lt cap a.max then Err (OverCap a.max cap) else Ok (tt {0})) ≡ Err fault)). by_max (nat_lt cap a.max) later.1)
    (first_or_second (fault_as BadAttrs (checked_attrs a)) (if nat_lt cap a.max then Err (OverCap a.max cap) else Ok tt) fault is)
  where
    by_attrs : (r : Result (Unit {0}) AttrsFault) → fault_as BadAttrs r ≡ Err fault → FaultFits fault
    by_attrs (Ok t) is = absurd cc
    by_attrs (Err why) is = subst FaultFits (same_fault (BadAttrs why) fault is) tt

    by_max : (b : Bool) → (if b then Err (OverCap a.max cap) else Ok (tt {0})) ≡ Err fault → FaultFits fault
    by_max true is = let max = fits.1 in subst FaultFits (same_fault (OverCap a.max cap) fault is) (omega (arith, max), omega (arith, small))
    by_max false is = absurd cc

slot_refused : (version : Version) (slot : Option SlotChange) (fault : CommitFault) → checked_new_slot version slot ≡ Err fault → FaultFits fault
slot_refused version None fault is = absurd cc
slot_refused version (Some change) fault is = by_check (checked_for_slot version change.slot change.scheme) is
  where
    by_check : (r : Result (Unit {0}) SchemeFault) → fault_as BadScheme r ≡ Err fault → FaultFits fault
    by_check (Ok t) is = absurd cc
    by_check (Err why) is = subst FaultFits (same_fault (BadScheme why) fault is) tt

cost_refused : (version : Version) (cost : Option CostPart) (fault : CommitFault) → IfSome cost FitsCost → checked_cost version cost ≡ Err fault → FaultFits fault
cost_refused version None fault fits is = absurd cc
cost_refused One (Some part) fault fits is = subst FaultFits (same_fault (BadCost part.slot) fault is) fits.0
cost_refused Two (Some part) fault fits is = by_test (nat_le part.slot 15) is
  where
    by_test : (b : Bool) → (if b then Ok (tt {0}) else Err (BadCost part.slot)) ≡ Err fault → FaultFits fault
    by_test true is = absurd cc
    by_test false is = subst FaultFits (same_fault (BadCost part.slot) fault is) fits.0

-- a commit that is refused
refused_fits : (cap : ℕ) (parts : CommitValue) (c : Core) (fault : CommitFault) → cap ≤ 4096 → IsWithin cap c → IsFree c.phase → FitsCommit parts → check_of parts c ≡ Err fault → FaultFits fault
refused_fits cap parts c fault small within free fits is =
    let most : c.regions.cap ≤ 4096 = omega (arith, within.0, small) in
    let ranges = checked_new_ranges c.space c.regions.unit c.regions.cap parts.ranges in
    let number = checked_number (ranges_after parts.ranges (length c.regions.ranges)) (max_after parts.attrs c.attrs.max) in
    let attrs = checked_new_attrs c.regions.cap parts.attrs in
    let slot = checked_new_slot c.version parts.slot in
    let cost = checked_cost c.version parts.cost in
    let after_slot : result_and slot cost ≡ Err fault → FaultFits fault = λ e. ⊎_elim
    (λ (first : slot ≡ Err fault). slot_refused c.version parts.slot fault first) (λ (later : (slot ≡ Ok tt) × (cost ≡ Err fault)). cost_refused c.version parts.cost fault fits.cost_fits later.1)
    (first_or_second slot cost fault e) in
    let after_attrs : result_and attrs (result_and slot cost) ≡ Err fault → FaultFits fault = λ e. ⊎_elim
    (λ (first : attrs ≡ Err fault). attrs_refused c.regions.cap parts.attrs fault most fits.attrs_fit first) (λ (later : (attrs ≡ Ok tt) × (result_and slot cost ≡ Err fault)). after_slot later.1)
    (first_or_second attrs (result_and slot cost) fault e) in
    let after_number : ranges ≡ Ok tt → result_and number (result_and attrs (result_and slot cost)) ≡ Err fault → FaultFits fault = λ ok e. (
    let few : ranges_after parts.ranges (length c.regions.ranges) ≤ c.regions.cap = ranges_few c.space c.regions.unit c.regions.cap (length c.regions.ranges) parts.ranges ok (omega (arith, within.0, within.2)) in
    let max : max_after parts.attrs c.attrs.max < 2 ^ 64 = max_fits parts.attrs c.attrs.max fits.attrs_fit (omega (arith, within.1, small)) in
    ⊎_elim
    (λ (first : number ≡ Err fault). number_refused (ranges_after parts.ranges (length c.regions.ranges)) (max_after parts.attrs c.attrs.max) fault (omega (arith, few, most)) max first)
    (λ (later : (number ≡ Ok tt) × (result_and attrs (result_and slot cost) ≡ Err fault)). after_attrs later.1)
    (first_or_second number (result_and attrs (result_and slot cost)) fault e)
    ) in
    let after_ranges : result_and ranges (result_and number (result_and attrs (result_and slot cost))) ≡ Err fault → FaultFits fault = λ e. ⊎_elim
    (λ (first : ranges ≡ Err fault). ranges_refused c.space c.regions.unit c.regions.cap parts.ranges fault most first)
    (λ (later : (ranges ≡ Ok tt) × (result_and number (result_and attrs (result_and slot cost)) ≡ Err fault)). after_number later.0 later.1)
    (first_or_second ranges (result_and number (result_and attrs (result_and slot cost))) fault e) in
    ⊎_elim
    (λ (first : checked_phase c.phase (row_count c) ≡ Err fault). absurd (not_busy c.phase (row_count c) fault free first))
    (λ (later : (checked_phase c.phase (row_count c) ≡ Ok tt) × (result_and ranges (result_and number (result_and attrs (result_and slot cost))) ≡ Err fault)). after_ranges later.1)
    (first_or_second (checked_phase c.phase (row_count c)) (result_and ranges (result_and number (result_and attrs (result_and slot cost)))) fault is)

-- ---- the answer

commit_fits : (parts : CommitValue) (c : Core) (checked : Result (Unit {0}) CommitFault) → ((fault : CommitFault) → checked ≡ Err fault → FaultFits fault)
    → row_count (if_accepted checked (committed_core parts c) c) ≤ 4096 → AnswerFits (answer_of (result_and checked (Ok (changed_by parts c))))
commit_fits parts c (Ok t) refused few = omega (arith, few)
commit_fits parts c (Err fault) refused few = refused fault refl

core_of : (checked : Result (Unit {0}) CommitFault) (parts : CommitValue) (s : State) → (if_accepted checked (committed parts s) s).core ≡ if_accepted checked (committed_core parts s.core) s.core
core_of (Ok t) parts s = refl
core_of (Err fault) parts s = refl

-- the answer of a call in a state, whose number of rows is at most 4096 before and after it
pub answer_fits : (version : Version) (cap : ℕ) (call : CallValue) (s after_call : State) → cap ≤ 4096 → IsWithin cap s.core → IsFree s.core.phase → FitsCall version call → s.core.ticks < 2 ^ 64
    → row_count s.core ≤ 4096 → after_call ≡ run s (call_event call ∷ []) → row_count after_call.core ≤ 4096 → AnswerFits (call_answer call s.core)
answer_fits version cap ShowCall s after_call small within free fits ticks few is few_after = (ticks, omega (arith, few))
answer_fits version cap (CommitCall parts) s after_call small within free fits ticks few is few_after =
    commit_fits parts s.core (check_of parts s.core) (λ fault there. refused_fits cap parts s.core fault small within free fits.0 there)
    (subst (λ (c : Core). row_count c ≤ 4096) (ap (λ (t : State). t.core) is ∙ core_of (check_of parts s.core) parts s) few_after)
