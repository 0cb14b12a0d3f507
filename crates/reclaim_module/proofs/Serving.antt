-- What the events of a monitor make of the pages that are out.
use Rattle.std.proofs.Common.{◌≡◌, ℕ, zero, suc, ◌+◌, ◌<◌, Bool, true, false, List, [], ◌∷◌, ◌++◌, map, length, length-set, reverse, refl, sym, ap, subst, ◌∙◌, take, get_or}
use Rattle.std.specs.Prelude.{Option, Some, None, Result, Ok, Err, filter_map, slice_index, if◌then◌else◌}
use Rattle.std.specs.List.{AllByRecursion}
use Rattle.std.specs.Option.{option_map_or}
use Rattle.damon_types.specs.declared.scheme.Action.TheVariants.{Stat}
use Rattle.damon_types.specs.declared.scheme.CostPart.{CostPart}
use Rattle.damon_types.specs.declared.scheme.Quota.{Quota}
use Rattle.damon_types.specs.declared.scheme.Scheme.{Scheme}
use Rattle.damon_types.specs.declared.scheme.SlotChange.{SlotChange}
use Rattle.std.proofs.lemmas.Grind.{reverse_onto}
use Rattle.std.proofs.lemmas.List.{take_more}
use Rattle.damon_types.specs.declared.space.Target.{Target}
use Rattle.damon_types.specs.Space.{pages_of}
use Rattle.damon_types.specs.Span.{Span, spans}
use Rattle.damon_types.proofs.Lemmas.{all_append}
use Rattle.region_list.specs.Regions.{RegionList}
use Rattle.priority.specs.declared.candidates.Candidate.{Candidate}
use Rattle.scheme_filter.specs.declared.runs.Run.{Run}
use Rattle.quota_charge.specs.Quota.{has_ended}
use Rattle.live_commit.specs.declared.fault.CommitFault.{CommitFault}
use Rattle.live_commit.specs.declared.phase.Phase.{Phase}
use Rattle.live_commit.specs.declared.phase.Phase.TheVariants.{Clearing, Armed, Checking, Void}
use Rattle.live_commit.specs.Commit.{CommitValue}
use Rattle.live_commit.specs.Setup.{SetupValue}
use Rattle.scheme_engine.specs.declared.applied.AppliedRun.{AppliedRun}
use Rattle.scheme_engine.specs.Outcome.{chosen_of, outcome_of}
use Rattle.scheme_engine.specs.Served.{no_choice}
use Rattle.scheme_engine.specs.Taken.{applied_run, applied_runs, candidate_runs, span_at, taken_runs}
use Rattle.damon_core.specs.After.{after, by_clear, by_load, by_observe}
use Rattle.damon_core.specs.Aggregate.{merged_regions, served}
use Rattle.damon_core.specs.Commit.{check_of, committed, if_accepted}
use Rattle.damon_core.specs.Event.{Event, Fits, touch, clear, load, observe, aggregate, commit}
use Rattle.damon_core.specs.Note.{Note, cleared, checked, finished, voided, set as set_note, dropped, metric, turned, ran, cost}
use Rattle.damon_core.specs.Serve.{Serving, left_then, nothing_served, serve_scheme, serve_slot, serve_slots, with_turn}
use Rattle.damon_core.specs.Slots.{is_active_in, scheme_of, slot_count, start_of}
use Rattle.damon_core.specs.State.{State, opening_notes}
use Rattle.damon_core.proofs.Lemmas.{slot_same, turn_same, run_served, set_note as note_of_change, with_cost, with_metric, with_slot}
use Rattle.reclaim_module.specs.Calls.{after_action}
use Rattle.reclaim_module.specs.Pages.{ReclaimView}
use Rattle.reclaim_module.specs.Stands.{LeavesPages, MovesNothing, ReclaimStands, action_in, after_applied, after_event, after_runs}
use Rattle.reclaim_module.proofs.Standing.{length_after_action, stands_ran, stands_still, stands_touched, still_by}

-- one note more that moves nothing
still : (note : Note) (r : ReclaimView) (notes : List Note) → MovesNothing note → ReclaimStands r notes → ReclaimStands r (note ∷ notes)
still note r notes m s = stands_still note r notes (still_by note notes m) s

-- runs of which the slots hold the same schemes
pub applied_alike : (now notes : List Note) (runs : List AppliedRun) (r : ReclaimView) → ((slot : ℕ) → scheme_of now slot ≡ scheme_of notes slot) → after_applied now runs r ≡ after_applied notes runs r
applied_alike now notes [] r same = refl
applied_alike now notes (run ∷ runs) r same =
    ap (λ action. after_applied now runs (after_action action run.start run.pages r)) (ap (λ held. option_map_or (λ (scheme : Scheme). scheme.action) held Stat) (same run.slot))
    ∙ applied_alike now notes runs (after_action (action_in notes run.slot) run.start run.pages r) same

pub applied-append : (notes : List Note) (runs more : List AppliedRun) (r : ReclaimView) → after_applied notes (runs ++ more) r ≡ after_applied notes more (after_applied notes runs r)
applied-append notes [] more r = refl
applied-append notes (run ∷ runs) more r = applied-append notes runs more (after_action (action_in notes run.slot) run.start run.pages r)

-- one run more
pub applied_next : (notes : List Note) (runs : List AppliedRun) (i : ℕ) (none : AppliedRun) (r : ReclaimView) → i < length runs → after_applied notes (take (i + 1) runs) r ≡ (let run = get_or runs i none in after_action (action_in notes run.slot) run.start run.pages (after_applied notes (take i runs) r))
applied_next notes runs i none r here =
    ap (λ all. after_applied notes all r) (take_more runs i none here)
    ∙ applied-append notes (take i runs) (get_or runs i none ∷ []) r

all_reverse : {X : Type 0} (P : X → Type 0) (xs : List X) → AllByRecursion P xs → AllByRecursion P (reverse xs)
all_reverse P [] all = tt
all_reverse P (x ∷ xs) all = subst (AllByRecursion P) (sym (reverse_onto xs x [])) (all_append P (reverse xs) (x ∷ []) (all_reverse P xs all.1) (all.0, tt))

-- the notes of a setup move nothing
set_slot : (change : SlotChange) (changes : List SlotChange) (held : Option Scheme) → change.scheme ≡ held → AllByRecursion MovesNothing (filter_map note_of_change changes) → AllByRecursion MovesNothing (filter_map note_of_change (change ∷ changes))
set_slot change changes None is all = rw is all
set_slot change changes (Some scheme) is all = rw is (tt, all)

set_slots : (changes : List SlotChange) → AllByRecursion MovesNothing (filter_map note_of_change changes)
set_slots [] = tt
set_slots (change ∷ changes) = set_slot change changes change.scheme refl (set_slots changes)

pub opening_is_still : (v : SetupValue) → AllByRecursion MovesNothing (opening_notes v)
opening_is_still v = all_reverse MovesNothing (filter_map note_of_change v.slots) (set_slots v.slots)

-- runs of one slot
abbrev pub AreOf : ℕ → List AppliedRun → Type 0
AreOf slot runs = AllByRecursion (λ run. run.slot ≡ slot) runs

of_candidate : (slot : ℕ) (c : Candidate) (runs : List Run) → AreOf slot (map (applied_run slot c) runs)
of_candidate slot c [] = tt
of_candidate slot c (r ∷ runs) = (refl, of_candidate slot c runs)

pub of_slot : (slot : ℕ) (passes : ℕ → Bool) (ss : List Span) (cs : List Candidate) → AreOf slot (applied_runs slot passes ss cs)
of_slot slot passes ss [] = tt
of_slot slot passes ss (c ∷ cs) = all_append (λ (run : AppliedRun). run.slot ≡ slot) (candidate_runs slot passes ss c) (applied_runs slot passes ss cs) (of_candidate slot c (taken_runs passes c.share (span_at ss c))) (of_slot slot passes ss cs)

applied_of_slot : (notes : List Note) (slot : ℕ) (runs : List AppliedRun) (r : ReclaimView) → AreOf slot runs → after_applied notes runs r ≡ after_runs (action_in notes slot) runs r
applied_of_slot notes slot [] r of = refl
applied_of_slot notes slot (run ∷ runs) r of =
    ap (λ k. after_applied notes runs (after_action (action_in notes k) run.start run.pages r)) of.0
    ∙ applied_of_slot notes slot runs (after_action (action_in notes slot) run.start run.pages r) of.1

-- What holds of notes and of each longer by a note that moves nothing, holds after each event but touches and aggregations.
module _ (P : List Note → Type 0) (kept : (note : Note) (notes : List Note) → MovesNothing note → P notes → P (note ∷ notes)) where
  pub turn_keeps : (slot tick : ℕ) (quota : Option Quota) (notes : List Note) → P notes → P (with_turn slot tick quota notes)
  turn_keeps slot tick quota notes here = elim (option_map_or (λ (q : Quota). has_ended q (start_of notes slot) tick) quota false) as (λ b. P (if b then turned slot tick ∷ notes else notes)) [
    | true ↦ kept (turned slot tick) notes tt here
    | false ↦ here
  ]

  slot_keeps : (change : Option SlotChange) (notes : List Note) → P notes → P (with_slot change notes)
  slot_keeps None notes here = here
  slot_keeps (Some change) notes here = elim change.scheme as (λ held. P (option_map_or (set_note change.slot) held (dropped change.slot) ∷ notes)) [
    | None ↦ kept (dropped change.slot) notes tt here
    | Some scheme ↦ kept (set_note change.slot scheme) notes tt here
  ]

  metric_keeps : (value : Option ℕ) (notes : List Note) → P notes → P (with_metric value notes)
  metric_keeps None notes here = here
  metric_keeps (Some value) notes here = kept (metric value) notes tt here

  cost_keeps : (part : Option CostPart) (notes : List Note) → P notes → P (with_cost part notes)
  cost_keeps None notes here = here
  cost_keeps (Some part) notes here = kept (cost part.slot part.nanos) notes tt here

  by_check : (parts : CommitValue) (s : State) (check : Result (Unit {0}) CommitFault) → P s.notes → P (if_accepted check (committed parts s) s).notes
  by_check parts s (Ok t) here = cost_keeps parts.cost (with_metric parts.metric (with_slot parts.slot s.notes)) (metric_keeps parts.metric (with_slot parts.slot s.notes) (slot_keeps parts.slot s.notes here))
  by_check parts s (Err fault) here = here

  clear_keeps : (phase : Phase) (s : State) → P s.notes → P (by_clear phase s).notes
  clear_keeps (Clearing k) s here = kept (cleared (s.core.ticks + 1) k (slice_index s.core.picks k)) s.notes tt here
  clear_keeps _ s here = here

  load_keeps : (phase : Phase) (hit : Bool) (s : State) → P s.notes → P (by_load phase hit s).notes
  load_keeps Armed hit s here = kept (checked (s.core.ticks + 1) 0 (slice_index s.core.picks 0) hit) s.notes tt here
  load_keeps (Checking k) hit s here = kept (checked (s.core.ticks + 1) k (slice_index s.core.picks k) hit) s.notes tt here
  load_keeps _ hit s here = here

  observe_keeps : (phase : Phase) (s : State) → P s.notes → P (by_observe phase s).notes
  observe_keeps (Checking k) s here = kept (finished (s.core.ticks + 1) (spans s.core.regions.rows)) s.notes tt here
  observe_keeps Void s here = kept (voided (s.core.ticks + 1)) s.notes tt here
  observe_keeps _ s here = here

  pub other_keeps : (e : Event) (s : State) → LeavesPages e → P s.notes → P (after s e).notes
  other_keeps (touch page) s other here = absurd other
  other_keeps (aggregate words) s other here = absurd other
  other_keeps clear s other here = clear_keeps s.core.phase s here
  other_keeps (load hit) s other here = load_keeps s.core.phase hit s here
  other_keeps observe s other here = observe_keeps s.core.phase s here
  other_keeps (commit parts) s other here = by_check parts s (check_of parts s.core) here
  other_keeps _ s other here = here

-- What holds where a slot is not set, where its scheme is not active and where it is run, holds of each slot that is served.
module _ (slot : ℕ) (space : List Target) (aggr tick : ℕ) (regions : RegionList) (notes : List Note) (P : Serving → Type 0) where
  pub slot_by : P (nothing_served regions notes)
      → ((scheme : Scheme) → scheme_of notes slot ≡ Some scheme → P (record { rows = regions.rows; notes = with_turn slot tick scheme.quota notes; runs = []; choices = no_choice slot ∷ [] }))
      → ((scheme : Scheme) → scheme_of notes slot ≡ Some scheme → P (run_served slot tick (left_then slot tick notes scheme) (with_turn slot tick scheme.quota notes) (outcome_of slot space aggr scheme (left_then slot tick notes scheme) regions)))
      → P (serve_slot slot space aggr tick regions notes)
  slot_by unset inactive active =
      let by : Option Scheme → Serving = λ held. option_map_or (serve_scheme slot space aggr tick regions notes) held (nothing_served regions notes) in
      elim (scheme_of notes slot) as (λ held. scheme_of notes slot ≡ held → P (by held)) [
        | None ↦ λ none. unset
        | Some scheme ↦ λ held.
            let now = with_turn slot tick scheme.quota notes in
            let left = left_then slot tick notes scheme in
            let idle : Serving = record { rows = regions.rows; notes = now; runs = []; choices = no_choice slot ∷ [] } in
            elim (is_active_in now slot scheme) as (λ b. P (if b then run_served slot tick left now (outcome_of slot space aggr scheme left regions) else idle)) [
              | true ↦ active scheme held
              | false ↦ inactive scheme held
            ]
      ] refl

-- one slot
slot_stands : (slot : ℕ) (space : List Target) (aggr tick : ℕ) (regions : RegionList) (notes : List Note) (r : ReclaimView) → ReclaimStands r notes → ReclaimStands (after_applied notes (serve_slot slot space aggr tick regions notes).runs r) (serve_slot slot space aggr tick regions notes).notes
slot_stands slot space aggr tick regions notes r s =
    let turned = λ (scheme : Scheme). turn_keeps (ReclaimStands r) (λ note ns. still note r ns) slot tick scheme.quota notes s in
    slot_by slot space aggr tick regions notes (λ y. ReclaimStands (after_applied notes y.runs r) y.notes) s (λ scheme held. turned scheme) (λ scheme held.
    let now = with_turn slot tick scheme.quota notes in
    let left = left_then slot tick notes scheme in
    let o = outcome_of slot space aggr scheme left regions in
    let of : AreOf slot o.runs = of_slot slot _ (spans regions.rows) (chosen_of space aggr scheme left regions) in
    let action : action_in notes slot ≡ scheme.action = ap (λ h. option_map_or (λ (x : Scheme). x.action) h Stat) held in
    let runs : after_runs scheme.action o.runs r ≡ after_applied notes o.runs r = ap (λ a. after_runs a o.runs r) (sym action) ∙ sym (applied_of_slot notes slot o.runs r of) in
    subst (λ x. ReclaimStands x (ran slot tick o.tried o.runs o.exceeds ∷ now)) runs (stands_ran slot tick o.tried o.runs o.exceeds r now (turned scheme) scheme (turn_same slot tick scheme.quota notes slot ∙ held)))

-- all slots
slots_stand : (n slot : ℕ) (space : List Target) (aggr tick : ℕ) (regions : RegionList) (notes : List Note) (r : ReclaimView) → ReclaimStands r notes → ReclaimStands (after_applied notes (serve_slots n slot space aggr tick regions notes).runs r) (serve_slots n slot space aggr tick regions notes).notes
slots_stand zero slot space aggr tick regions notes r s = s
slots_stand (suc n) slot space aggr tick regions notes r s =
    let first = serve_slot slot space aggr tick regions notes in
    let others = serve_slots n (slot + 1) space aggr tick (record regions { rows = first.rows }) first.notes in
    let next = after_applied notes first.runs r in
    let one = slot_stands slot space aggr tick regions notes r s in
    let two = slots_stand n (slot + 1) space aggr tick (record regions { rows = first.rows }) first.notes next one in
    subst (λ x. ReclaimStands x others.notes) (applied_alike first.notes notes others.runs next (slot_same slot space aggr tick regions notes) ∙ sym (applied-append notes first.runs others.runs r)) two

-- each event
pub event_stands : (e : Event) (s : State) (r : ReclaimView) → length r.out ≡ pages_of s.core.space → Fits s e → ReclaimStands r s.notes → ReclaimStands (after_event e s r) (after s e).notes
event_stands (touch page) s r len fits here = stands_touched page r s.notes (subst (λ n. page < n) (sym len) fits) here
event_stands (aggregate words) s r len fits here = slots_stand slot_count 0 s.core.space s.core.attrs.aggr s.core.ticks (merged_regions s.core) s.notes r here
event_stands e s r len fits here = other_keeps (ReclaimStands r) (λ note notes. still note r notes) e s tt here

-- the number of pages stays
pub length_after_applied : (notes : List Note) (runs : List AppliedRun) (r : ReclaimView) → length (after_applied notes runs r).out ≡ length r.out
length_after_applied notes [] r = refl
length_after_applied notes (run ∷ runs) r =
    length_after_applied notes runs (after_action (action_in notes run.slot) run.start run.pages r)
    ∙ length_after_action (action_in notes run.slot) run.start run.pages r

pub length_after_event : (e : Event) (s : State) (r : ReclaimView) → length (after_event e s r).out ≡ length r.out
length_after_event (touch page) s r = length-set r.out page false
length_after_event (aggregate words) s r = length_after_applied s.notes (served s).runs r
length_after_event _ s r = refl
