-- In version One no cost is handed in, and no scheme is set whose quota has a time.
use Rattle.std.proofs.Common.{◌≡◌, ℕ, Bool, List, [], ◌∷◌, ◌++◌, length, Option, Some, None, Ok, Err, refl, subst}
use Rattle.std.specs.Prelude.{if◌then◌else◌, IfSome, Result, filter_map}
use Rattle.std.specs.List.{AllByRecursion, cons_option}
use Rattle.std.specs.Option.{option_map, option_map_or}
use Rattle.std.specs.Result.{result_and}
use mathlib.Core.List.{reverse_aux}
use Rattle.damon_types.specs.Faults.{fault_as}
use Rattle.damon_types.specs.declared.scheme.CostPart.{CostPart}
use Rattle.damon_types.specs.declared.scheme.Quota.{Quota}
use Rattle.damon_types.specs.declared.scheme.Scheme.{Scheme}
use Rattle.damon_types.specs.declared.scheme.SchemeFault.{SchemeFault}
use Rattle.damon_types.specs.declared.scheme.SlotChange.{SlotChange}
use Rattle.damon_types.specs.declared.scheme.Version.{Version}
use Rattle.damon_types.specs.declared.scheme.Version.TheVariants.{One}
use Rattle.damon_types.specs.Scheme.{checked_in, checked_scheme, checked_time}
use Rattle.damon_types.proofs.Lemmas.{both_ok}
use Rattle.live_commit.specs.declared.fault.SetupFault.TheVariants.{BadScheme as BadSlot, RepeatedSlot}
use Rattle.live_commit.specs.declared.fault.CommitFault.{CommitFault}
use Rattle.live_commit.specs.declared.fault.CommitFault.TheVariants.{BadScheme}
use Rattle.live_commit.specs.Accepts.{checked_cost, checked_for_slot, checked_new_attrs, checked_new_ranges, checked_new_slot, checked_number, checked_phase, max_after, ranges_after}
use Rattle.live_commit.specs.Commit.{CommitValue}
use Rattle.live_commit.specs.Setup.{SetupValue}
use Rattle.live_commit.specs.Slots.{checked_after, checked_set, checked_slot, checked_slots, is_set}
use Rattle.damon_core.specs.Note.{Note, set, dropped}
use Rattle.damon_core.specs.State.{Core, State, opening_notes}
use Rattle.damon_core.specs.Commit.{check_of, committed_notes, view_of}
use Rattle.damon_core.specs.Reached.{Reached}
use Rattle.damon_core.specs.VersionOne.{AreOfVersionOne, IsOfVersionOne}
use Rattle.damon_core.proofs.Keeping.{Keeps, any_result, reached_keeps}
use Rattle.damon_core.proofs.Served.{notes_hold}
use Rattle.damon_core.proofs.NoteParts.{set_note, with_cost, with_metric, with_slot}

-- ---- the quota of a scheme that is accepted

untimed : (bytes reset : ℕ) (time : Option ℕ) → checked_time One (Some (record { bytes = bytes; reset = reset; time = time })) ≡ Ok tt → time ≡ None
untimed bytes reset None ok = refl
untimed bytes reset (Some t) ok = absurd (cc)

no_time : (quota : Option Quota) → checked_time One quota ≡ Ok tt → IfSome quota (λ q. q.time ≡ None)
no_time None ok = tt
no_time (Some q) ok = untimed q.bytes q.reset q.time ok

scheme_of_one : (slot : ℕ) (s : Scheme) → checked_in One slot s ≡ Ok tt → IfSome s.quota (λ q. q.time ≡ None)
scheme_of_one slot s ok = no_time s.quota (both_ok (checked_scheme slot s) (checked_time One s.quota) ok).1

-- ---- the notes of an opening

setup_ok : (index : ℕ) (r : Result (Unit {0}) SchemeFault) → (fault_as (BadSlot index) r) ≡ Ok tt → r ≡ Ok tt
setup_ok index (Ok t) ok = refl
setup_ok index (Err why) ok = absurd (cc)

one_set : (index : ℕ) (taken : Bool) (slot : ℕ) (o : Option Scheme) (notes : List Note) → checked_set One index taken slot o ≡ Ok tt → AreOfVersionOne notes → AreOfVersionOne (cons_option (option_map (set slot) o) notes)
one_set index taken slot None notes ok all = all
one_set index taken slot (Some s) notes ok all =
    (scheme_of_one slot s (setup_ok index (checked_in One slot s) (both_ok (fault_as (BadSlot index) (checked_in One slot s)) (if taken then Err (RepeatedSlot index) else Ok tt) ok).0), all)

all_set : (before changes : List SlotChange) → checked_after One before changes ≡ Ok tt → AreOfVersionOne (filter_map set_note changes)
all_set before [] ok = tt
all_set before (c ∷ changes) ok =
    let both = both_ok (checked_slot One (length before) before c) (checked_after One (before ++ c ∷ []) changes) ok in
    one_set (length before) (is_set c.slot before) c.slot c.scheme (filter_map set_note changes) both.0 (all_set (before ++ c ∷ []) changes both.1)

all_reversed : (P : Note → Type 0) (notes onto : List Note) → AllByRecursion P notes → AllByRecursion P onto → AllByRecursion P (reverse_aux notes onto)
all_reversed P [] onto all more = more
all_reversed P (n ∷ notes) onto all more = all_reversed P notes (n ∷ onto) all.1 (all.0, more)

opening_of_one : (v : SetupValue) → checked_slots v.version v.slots ≡ Ok tt → v.version ≡ One → AreOfVersionOne (opening_notes v)
opening_of_one v ok one =
    all_reversed IsOfVersionOne (filter_map set_note v.slots) [] (all_set [] v.slots (subst (λ (version : Version). checked_slots version v.slots ≡ Ok tt) one ok)) tt

-- ---- the notes of a commit

commit_ok : {E : Type 0} (fault : E → CommitFault) (r : Result (Unit {0}) E) → fault_as fault r ≡ Ok tt → r ≡ Ok tt
commit_ok fault (Ok t) ok = refl
commit_ok fault (Err why) ok = absurd (cc)

note_of_one : (slot : ℕ) (o : Option Scheme) → checked_for_slot One slot o ≡ Ok tt → IsOfVersionOne (option_map_or (set slot) o (dropped slot))
note_of_one slot None ok = tt
note_of_one slot (Some s) ok = scheme_of_one slot s ok

slot_of_one : (change : Option SlotChange) (notes : List Note) → checked_new_slot One change ≡ Ok tt → AreOfVersionOne notes → AreOfVersionOne (with_slot change notes)
slot_of_one None notes ok all = all
slot_of_one (Some c) notes ok all = (note_of_one c.slot c.scheme (commit_ok BadScheme (checked_for_slot One c.slot c.scheme) ok), all)

metric_of_one : (value : Option ℕ) (notes : List Note) → AreOfVersionOne notes → AreOfVersionOne (with_metric value notes)
metric_of_one None notes all = all
metric_of_one (Some value) notes all = (tt, all)

cost_of_one : (part : Option CostPart) (notes : List Note) → checked_cost One part ≡ Ok tt → AreOfVersionOne notes → AreOfVersionOne (with_cost part notes)
cost_of_one None notes ok all = all
cost_of_one (Some p) notes ok all = absurd (cc)

commit_of_one : (core : Core) (c : CommitValue) (notes : List Note) → check_of c core ≡ Ok tt → core.version ≡ One → AreOfVersionOne notes → AreOfVersionOne (committed_notes c notes)
commit_of_one core c notes ok one all =
    let v = view_of core in
    let ranges = (both_ok (checked_phase v.phase v.rows) _ ok).1 in
    let number = (both_ok (checked_new_ranges core.space v.unit v.cap c.ranges) _ ranges).1 in
    let attrs = (both_ok (checked_number (ranges_after c.ranges v.ranges) (max_after c.attrs v.max)) _ number).1 in
    let slot = (both_ok (checked_new_attrs v.cap c.attrs) _ attrs).1 in
    let both = both_ok (checked_new_slot core.version c.slot) (checked_cost core.version c.cost) slot in
    let slot_ok = subst (λ (version : Version). checked_new_slot version c.slot ≡ Ok tt) one both.0 in
    let cost_ok = subst (λ (version : Version). checked_cost version c.cost ≡ Ok tt) one both.1 in
    cost_of_one c.cost (with_metric c.metric (with_slot c.slot notes)) cost_ok (metric_of_one c.metric (with_slot c.slot notes) (slot_of_one c.slot notes slot_ok all))

-- ---- each event

abbrev HasNotesOfOne : State → Type 0
HasNotesOfOne s = s.core.version ≡ One → AreOfVersionOne s.notes

one_kept : Keeps any_result HasNotesOfOne
one_kept = record {
  opens = λ v can one. opening_of_one v can.sound.slots one;
  touching = λ s p h one. (tt, h one);
  preparing = λ s ws idle count h one. h one;
  clearing = λ s k is h one. (tt, h one);
  loading = λ s k hit fits is known h one. (tt, h one);
  finishing = λ s is h one. (tt, h one);
  voiding = λ s is h one. (tt, h one);
  aggregating = λ s ws is h one. notes_hold AreOfVersionOne (record { turning = λ slot tick notes all. (tt, all); running = λ slot tick tried runs exceeds notes all. (tt, all) }) s (h one);
  committing = λ s c ok h one. commit_of_one s.core c s.notes ok one (h one);
}

pub reached_of_one : (s : State) → Reached s → s.core.version ≡ One → AreOfVersionOne s.notes
reached_of_one s reached = reached_keeps HasNotesOfOne one_kept s reached
