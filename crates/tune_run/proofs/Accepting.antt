-- Which commits are accepted: each change that tunes a slot is.
use Rattle.std.proofs.Common.{◌≡◌, ℕ, ◌≤◌, Bool, true, false, List, [], ◌∷◌, ◌++◌, length, Ok, Err, Option, Some, None, refl, sym, ap, subst, ◌∙◌, arith}
use Rattle.std.specs.Prelude.{◌==◌, filter_map, if◌then◌else◌}
use Rattle.std.specs.Result.{result_and}
use Rattle.std.proofs.lemmas.Bool.Decides.{nat_tests}
use mathlib.Core.List.{reverse_aux}
use Rattle.damon_types.specs.Faults.{fault_as}
use Rattle.damon_types.specs.declared.scheme.Quota.{Quota}
use Rattle.damon_types.specs.declared.scheme.Scheme.{Scheme}
use Rattle.damon_types.specs.declared.scheme.SlotChange.{SlotChange}
use Rattle.damon_types.specs.declared.scheme.Version.{Version}
use Rattle.damon_types.specs.declared.scheme.Version.TheVariants.{One, Two}
use Rattle.damon_types.specs.Scheme.{checked_in}
use Rattle.damon_types.proofs.Lemmas.{both_ok, fault_as_ok}
use Rattle.live_commit.specs.declared.fault.SetupFault.TheVariants.{BadScheme as BadSlot, RepeatedSlot}
use Rattle.live_commit.specs.declared.fault.CommitFault.TheVariants.{BadScheme}
use Rattle.live_commit.specs.declared.phase.Phase.{Phase}
use Rattle.live_commit.specs.declared.phase.Phase.TheVariants.{Idle, Clearing, Armed, Checking, Void, Due}
use Rattle.live_commit.specs.Accepted.{AllowsCommit}
use Rattle.live_commit.specs.Accepts.{checked_for_slot, checked_new_attrs, checked_new_ranges, checked_new_slot, checked_number, checked_phase, max_after, ranges_after}
use Rattle.live_commit.specs.Commit.{CommitValue}
use Rattle.live_commit.specs.Setup.{IsSetup, SetupValue}
use Rattle.live_commit.specs.Slots.{checked_after, checked_set, checked_slot, is_set}
use Rattle.live_commit.proofs.Lemmas.{commit_accepted}
use Rattle.damon_core.specs.After.{after, by_clear, by_load, by_observe}
use Rattle.damon_core.specs.Commit.{becomes_void, check_of, committed, committed_core, if_accepted, view_of}
use Rattle.damon_core.specs.Event.{Event, touch, prepare, clear, load, observe, aggregate, commit, show}
use Rattle.damon_core.specs.Note.{Note, set}
use Rattle.damon_core.specs.Reached.{Reached, run}
use Rattle.damon_core.specs.Slots.{scheme_of}
use Rattle.damon_core.specs.State.{Core, State, opening, row_count}
use Rattle.damon_core.proofs.Lemmas.{few_after, scheme_stays, set_note, with_slot}
use Rattle.quota_goal.specs.Tuned.{with_bytes}
use Rattle.tune_run.specs.Callbacks.{change_alone}
use Rattle.tune_run.proofs.Slots.{only_slot}

-- ---- what holds of the schemes of each reached state

-- each scheme is within the limits of the version
abbrev pub AreSound : Version → List Note → Type 0
AreSound version notes = (slot : ℕ) (scheme : Scheme) → scheme_of notes slot ≡ Some scheme → checked_in version slot scheme ≡ Ok tt

-- there are no more ranges than regions allowed, and each scheme is within the limits
abbrev pub TakesChanges : State → Type 0
TakesChanges s = (length s.core.regions.ranges ≤ s.core.attrs.max) × AreSound s.core.version s.notes

-- one slot set to a scheme within the limits
set_sound : (version : Version) (slot : ℕ) (scheme : Scheme) (notes : List Note) → checked_in version slot scheme ≡ Ok tt
    → AreSound version notes → AreSound version (set slot scheme ∷ notes)
set_sound version slot scheme notes ok sound i held is =
    (elim (slot == i) as (λ b. (slot == i) ≡ b → (if b then Some scheme else scheme_of notes i) ≡ Some held → checked_in version i held ≡ Ok tt) [
      | true ↦ λ test here.
          let at : slot ≡ i = grind (arith, nat_tests) in
          let what : scheme ≡ held = cc here in
          subst (λ (x : Scheme). checked_in version i x ≡ Ok tt) what (subst (λ k. checked_in version k scheme ≡ Ok tt) at ok)
      | false ↦ λ test here. sound i held here
    ]) refl is

-- the slots of a setup
setup_sound : (version : Version) (before changes : List SlotChange) (notes : List Note) → AreSound version notes
    → checked_after version before changes ≡ Ok tt → AreSound version (reverse_aux (filter_map set_note changes) notes)
setup_sound version before [] notes sound ok = sound
setup_sound version before (c ∷ changes) notes sound ok =
    let both = both_ok (checked_slot version (length before) before c) (checked_after version (before ++ c ∷ []) changes) ok in
    by_scheme c.slot c.scheme (is_set c.slot before) both.0 (λ earlier held. setup_sound version (before ++ c ∷ []) changes earlier held both.1)
  where
    by_scheme : (slot : ℕ) (scheme : Option Scheme) (is : Bool) → checked_set version (length before) is slot scheme ≡ Ok tt
        → ((earlier : List Note) → AreSound version earlier → AreSound version (reverse_aux (filter_map set_note changes) earlier))
        → AreSound version (reverse_aux (filter_map set_note (record { slot = slot; scheme = scheme } ∷ changes)) notes)
    by_scheme slot None is fine rest = rest notes sound
    by_scheme slot (Some scheme) is fine rest =
        let both = both_ok (fault_as (BadSlot (length before)) (checked_in version slot scheme)) (if is then Err (RepeatedSlot (length before)) else Ok tt) fine in
        rest (set slot scheme ∷ notes) (set_sound version slot scheme notes (fault_as_ok (BadSlot (length before)) (checked_in version slot scheme) both.0) sound)

pub opening_takes : (v : SetupValue) → IsSetup v → TakesChanges (opening v)
opening_takes v is = (is.ranges_most, setup_sound v.version [] v.slots [] (λ slot scheme held. absurd (cc held)) is.slots)

-- ---- each event keeps it

slot_sound : (version : Version) (slot : Option SlotChange) (notes : List Note) → checked_new_slot version slot ≡ Ok tt
    → AreSound version notes → AreSound version (with_slot slot notes)
slot_sound version None notes ok sound = sound
slot_sound version (Some change) notes ok sound =
    by_scheme change.scheme (fault_as_ok BadScheme (checked_for_slot version change.slot change.scheme) ok)
  where
    by_scheme : (scheme : Option Scheme) → checked_for_slot version change.slot scheme ≡ Ok tt
        → AreSound version (with_slot (Some (record { slot = change.slot; scheme = scheme })) notes)
    by_scheme None fine i held is =
        (elim (change.slot == i) as (λ b. (if b then None else scheme_of notes i) ≡ Some held → checked_in version i held ≡ Ok tt) [
          | true ↦ λ here. absurd (cc here)
          | false ↦ λ here. sound i held here
        ]) is
    by_scheme (Some scheme) fine i held is = set_sound version change.slot scheme notes fine sound i held is

pub commit_takes : (parts : CommitValue) (s : State) → check_of parts s.core ≡ Ok tt → TakesChanges s → TakesChanges (committed parts s)
commit_takes parts s ok here =
    let c = s.core in
    let v = view_of c in
    let phase = both_ok (checked_phase c.phase (row_count c)) _ ok in
    let ranges = both_ok (checked_new_ranges c.space v.unit v.cap parts.ranges) _ phase.1 in
    let number = both_ok (checked_number (ranges_after parts.ranges v.ranges) (max_after parts.attrs v.max)) _ ranges.1 in
    let attrs = both_ok (checked_new_attrs v.cap parts.attrs) _ number.1 in
    let slot = both_ok (checked_new_slot c.version parts.slot) _ attrs.1 in (
      few_after c parts.attrs parts.ranges parts.slot parts.metric parts.cost (commit_accepted c.space v parts ok).few,
      λ i scheme is. slot_sound c.version parts.slot s.notes slot.0 here.1 i scheme (sym (only_slot parts s.notes i) ∙ is),
    )

-- what a pass does in each phase
pass_takes : (phase : Phase) (hit : Bool) (s : State) → TakesChanges s
    → TakesChanges (by_clear phase s) × TakesChanges (by_load phase hit s) × TakesChanges (by_observe phase s)
pass_takes Idle hit s here = (here, here, here)
pass_takes (Clearing k) hit s here = (here, here, here)
pass_takes Armed hit s here = (here, here, here)
pass_takes (Checking k) hit s here = (here, here, here)
pass_takes Void hit s here = (here, here, here)
pass_takes Due hit s here = (here, here, here)

pub event_takes : (e : Event) (s : State) → TakesChanges s → TakesChanges (after s e)
event_takes (touch page) s here = here
event_takes (prepare words) s here = here
event_takes clear s here = (pass_takes s.core.phase true s here).0
event_takes (load hit) s here = (pass_takes s.core.phase hit s here).1
event_takes observe s here = (pass_takes s.core.phase true s here).2
event_takes (aggregate words) s here =
    (here.0, λ slot scheme is. here.1 slot scheme (sym (scheme_stays s (aggregate words) tt slot) ∙ is))
event_takes (commit parts) s here =
    (elim (check_of parts s.core) as (λ r. check_of parts s.core ≡ r → TakesChanges (if_accepted r (committed parts s) s)) [
      | Ok t ↦ λ ok. commit_takes parts s ok here
      | Err fault ↦ λ refused. here
    ]) refl
event_takes show s here = here

run_takes : (es : List Event) (s : State) → TakesChanges s → TakesChanges (run s es)
run_takes [] s here = here
run_takes (e ∷ es) s here = run_takes es (after s e) (event_takes e s here)

pub reached_takes : (s : State) → Reached s → TakesChanges s
reached_takes s reached =
    subst TakesChanges reached.is (run_takes reached.events (opening reached.setup) (opening_takes reached.setup reached.can_open.sound))

-- ---- a change of a slot in force to other bytes is accepted

other_bytes : (version : Version) (slot : ℕ) (s : Scheme) (bytes : ℕ) → checked_in version slot (with_bytes s bytes) ≡ checked_in version slot s
other_bytes version slot s bytes = by_quota version s.quota
  where
    by_quota : (version : Version) (q : Option Quota) → checked_in version slot (with_bytes (record s { quota = q }) bytes) ≡ checked_in version slot (record s { quota = q })
    by_quota One None = refl
    by_quota One (Some q) = refl
    by_quota Two None = refl
    by_quota Two (Some q) = refl

phase_allows : (phase : Phase) (rows : ℕ) → AllowsCommit phase → checked_phase phase rows ≡ Ok tt
phase_allows Idle rows free = refl
phase_allows (Clearing next) rows free = absurd free
phase_allows Armed rows free = refl
phase_allows (Checking next) rows free = absurd free
phase_allows Void rows free = refl
phase_allows Due rows free = refl

number_is_few : (ranges max : ℕ) → ranges ≤ max → checked_number ranges max ≡ Ok tt
number_is_few ranges max few = grind (arith, nat_tests)

pub tuned_is_accepted : (s : State) (slot : ℕ) (scheme : Scheme) (bytes : ℕ) → TakesChanges s → AllowsCommit s.core.phase
    → scheme_of s.notes slot ≡ Some scheme
    → check_of (change_alone (record { slot = slot; scheme = Some (with_bytes scheme bytes) })) s.core ≡ Ok tt
tuned_is_accepted s slot scheme bytes takes free held =
    let c = s.core in
    let number = checked_number (length c.regions.ranges) c.attrs.max in
    let changed = checked_new_slot c.version (Some (record { slot = slot; scheme = Some (with_bytes scheme bytes) })) in
    ap (λ r. result_and r (result_and number (result_and changed (Ok tt)))) (phase_allows c.phase (row_count c) free)
    ∙ ap (λ r. result_and r (result_and changed (Ok tt))) (number_is_few (length c.regions.ranges) c.attrs.max takes.0)
    ∙ ap (λ r. result_and (fault_as BadScheme r) (Ok tt)) (other_bytes c.version slot scheme bytes ∙ takes.1 slot scheme held)

-- commits are allowed in the phase after a commit that was accepted
pub free_again : (parts : CommitValue) (c : Core) → check_of parts c ≡ Ok tt → AllowsCommit (committed_core parts c).phase
free_again parts c ok =
    elim (becomes_void c.phase c.regions.rows (committed_core parts c).regions.rows) as (λ b. AllowsCommit (if b then Void else c.phase)) [
      | true ↦ tt
      | false ↦ (commit_accepted c.space (view_of c) parts ok).phase
    ]
