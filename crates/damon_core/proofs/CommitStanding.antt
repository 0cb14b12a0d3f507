-- A monitor that stands for a state stands for the one after a commit.
use Rattle.std.specs.Option.{option_map_or}
use Rattle.std.proofs.Common.{◌≡◌, ℕ, ◌≤◌, ◌<◌, List, ◌∷◌, get_or, length, set as put, Option, Some, None, Ok, Err, refl, sym, ap, ◌∙◌}
use Rattle.std.specs.Prelude.{Result}
use Rattle.damon_types.specs.declared.row.Row.{Row}
use Rattle.damon_types.specs.declared.scheme.CostPart.{CostPart}
use Rattle.damon_types.specs.declared.scheme.Scheme.{Scheme}
use Rattle.damon_types.specs.declared.scheme.SlotChange.{SlotChange}
use Rattle.damon_types.specs.declared.scheme.TheConstants.{MAX_SLOT}
use Rattle.live_commit.specs.declared.fault.CommitFault.{CommitFault}
use Rattle.live_commit.specs.declared.phase.Phase.{Phase}
use Rattle.live_commit.specs.Accepted.{AllowsCommit}
use Rattle.live_commit.specs.Commit.{CommitValue}
use Rattle.scheme_engine.specs.Slots.{changed, empty_slot}
use Rattle.live_commit.proofs.Lemmas.{commit_accepted}
use Rattle.damon_core.specs.Note.{Note, was_hit, set, dropped}
use Rattle.damon_core.specs.Totals.{checks_made, hits_made}
use Rattle.damon_core.specs.State.{Core, State}
use Rattle.damon_core.specs.Commit.{check_of, committed, committed_core, committed_notes, committed_slots, if_accepted, phase_after_commit, slots_changed, slots_costed, slots_metered, view_of}
use Rattle.damon_core.specs.Slots.{slot_count, slots_of}
use Rattle.damon_core.specs.Stands.{MonitorView, Stands, last_pass}
use Rattle.damon_core.proofs.Committing.{allows_commit, by_phase_after, committed_notes_hold}
use Rattle.damon_core.proofs.SlotNotes.{slot_counted_below, slots_of-cost, slots_of-dropped, slots_of-metric, slots_of-set}
use Rattle.damon_core.proofs.Tallying.{was_hit-commit}
use Rattle.damon_core.proofs.NoteParts.{with_cost, with_metric, with_slot}

checks_made-commit : (c : CommitValue) (notes : List Note) → checks_made (committed_notes c notes) ≡ checks_made notes
checks_made-commit c notes = committed_notes_hold (λ ns. checks_made ns ≡ checks_made notes) (λ slot scheme ns same. same) (λ slot ns same. same) (λ value ns same. same) (λ slot nanos ns same. same) c notes refl

hits_made-commit : (c : CommitValue) (notes : List Note) → hits_made (committed_notes c notes) ≡ hits_made notes
hits_made-commit c notes = committed_notes_hold (λ ns. hits_made ns ≡ hits_made notes) (λ slot scheme ns same. same) (λ slot ns same. same) (λ value ns same. same) (λ slot nanos ns same. same) c notes refl

-- a pass that becomes void keeps its number
last_pass-commit : (ph : Phase) (old new : List Row) (ticks : ℕ) → AllowsCommit ph → last_pass ph ticks ≡ last_pass (phase_after_commit ph old new) ticks
last_pass-commit ph old new ticks allows = by_phase_after (λ p. last_pass ph ticks ≡ last_pass p ticks) ph old new allows (λ is lies. number is) (λ is. number is) (λ is. number is) (λ is. number is) (λ is. number is)
  where
    number : {p : Phase} → ph ≡ p → last_pass ph ticks ≡ last_pass p ticks
    number is = ap (λ p. last_pass p ticks) is

slots_scheme : (slot : ℕ) (scheme : Option Scheme) (notes : List Note) → slot < slot_count
    → put (slots_of notes) slot (changed scheme (get_or (slots_of notes) slot empty_slot)) ≡ slots_of (option_map_or (set slot) scheme (dropped slot) ∷ notes)
slots_scheme slot None notes below = sym (slots_of-dropped slot notes below)
slots_scheme slot (Some scheme) notes below = sym (slots_of-set slot scheme notes below)

slots_slot : (change : Option SlotChange) (notes : List Note) → ((x : SlotChange) → change ≡ Some x → x.slot ≤ MAX_SLOT) → slots_changed change (slots_of notes) ≡ slots_of (with_slot change notes)
slots_slot None notes within = refl
slots_slot (Some x) notes within = slots_scheme x.slot x.scheme notes (slot_counted_below x.slot (within x refl))

slots_metric : (value : Option ℕ) (notes : List Note) → slots_metered value (slots_of notes) ≡ slots_of (with_metric value notes)
slots_metric None notes = refl
slots_metric (Some value) notes = sym (slots_of-metric value notes)

slots_cost : (part : Option CostPart) (notes : List Note) → ((x : CostPart) → part ≡ Some x → x.slot ≤ MAX_SLOT) → slots_costed part (slots_of notes) ≡ slots_of (with_cost part notes)
slots_cost None notes within = refl
slots_cost (Some x) notes within = sym (slots_of-cost x.slot x.nanos notes (slot_counted_below x.slot (within x refl)))

-- the slots after a commit that is accepted are those that its notes tell of
slots_committed : (c : CommitValue) (core : Core) (notes : List Note) → check_of c core ≡ Ok tt → committed_slots c (slots_of notes) ≡ slots_of (committed_notes c notes)
slots_committed c core notes ok =
    let is = commit_accepted core.space (view_of core) c ok in
    ap (λ ss. slots_costed c.cost (slots_metered c.metric ss)) (slots_slot c.slot notes is.slot)
    ∙ ap (slots_costed c.cost) (slots_metric c.metric (with_slot c.slot notes))
    ∙ slots_cost c.cost (with_metric c.metric (with_slot c.slot notes)) (λ part some. (is.cost part some).1)

-- what the check of the commit leaves
pub stands_after : (checked : Result (Unit {0}) CommitFault) (m : MonitorView) (s : State) (c : CommitValue) → check_of c s.core ≡ checked → Stands m s
    → Stands (record m { core = if_accepted checked (committed_core c s.core) s.core; slots = if_accepted checked (committed_slots c m.slots) m.slots }) (if_accepted checked (committed c s) s)
stands_after (Ok t) m s c ok stands =
    let new = (committed_core c s.core).regions.rows in
    let number = last_pass-commit s.core.phase s.core.regions.rows new s.core.ticks (allows_commit c s.core ok) in
    record {
      same = refl;
      each = stands.each ∙ ap (λ (x : Core). length x.picks) stands.same;
      results = λ k.
          stands.results k
          ∙ ap (λ (x : Core). was_hit s.notes (last_pass x.phase x.ticks) k) stands.same
          ∙ ap (λ n. was_hit s.notes n k) number
          ∙ sym (was_hit-commit c s.notes (last_pass (phase_after_commit s.core.phase s.core.regions.rows new) s.core.ticks) k);
      checks = stands.checks ∙ sym (checks_made-commit c s.notes);
      hits = stands.hits ∙ sym (hits_made-commit c s.notes);
      slots = ap (committed_slots c) stands.slots ∙ slots_committed c s.core s.notes ok;
    }
stands_after (Err fault) m s c ok stands = record {
  same = refl;
  each = stands.each ∙ ap (λ (x : Core). length x.picks) stands.same;
  results = λ k. stands.results k ∙ ap (λ (x : Core). was_hit s.notes (last_pass x.phase x.ticks) k) stands.same;
  checks = stands.checks;
  hits = stands.hits;
  slots = stands.slots;
}
