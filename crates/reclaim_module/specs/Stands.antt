-- For which notes a model of resident pages stands, and what the events of a monitor make of it.
use Rattle.std.specs.Prelude.{◌≡◌, ℕ, List, [], ◌∷◌, length}
use Rattle.std.specs.Option.{option_map_or}
use Rattle.page_bits.specs.Sets.{each_page}
use Rattle.damon_types.specs.declared.scheme.Action.{Action}
use Rattle.damon_types.specs.declared.scheme.Action.TheVariants.{Stat}
use Rattle.scheme_engine.specs.declared.applied.AppliedRun.{AppliedRun}
use Rattle.damon_core.specs.After.{after}
use Rattle.damon_core.specs.Aggregate.{served}
use Rattle.damon_core.specs.Event.{Event, touch, aggregate}
use Rattle.damon_core.specs.Note.{Note, touched, ran}
use Rattle.damon_core.specs.Slots.{scheme_of}
use Rattle.damon_core.specs.State.{State}
use Rattle.reclaim_module.specs.Calls.{after_action, after_touch}
use Rattle.reclaim_module.specs.Counts.{pageouts_of, prefetches_of, refaults_of}
use Rattle.reclaim_module.specs.Out.{is_out}
use Rattle.reclaim_module.specs.Pages.{ReclaimView}

-- The pages that are out are those by the notes, and so are the numbers.
pub record ReclaimStands (r : ReclaimView) (notes : List Note) : Type 0 where
  pub out : r.out ≡ each_page (length r.out) (is_out notes)
  pub pageouts : r.counts.pageouts ≡ pageouts_of (length r.out) notes
  pub refaults : r.counts.refaults ≡ refaults_of notes
  pub prefetches : r.counts.prefetches ≡ prefetches_of (length r.out) notes

-- a note that moves no page: neither a touch nor a run of a scheme
abbrev pub MovesNothing : Note → Type 0
MovesNothing (touched page) = ⊥
MovesNothing (ran slot tick tried runs exceeds) = ⊥
MovesNothing _ = Unit {0}

-- an action is applied to each of these runs, the first one first
abbrev pub after_runs : Action → List AppliedRun → ReclaimView → ReclaimView
after_runs action [] r = r
after_runs action (run ∷ runs) r = after_runs action runs (after_action action run.start run.pages r)

-- the action of the scheme that a slot holds; `stat`, which moves nothing, where it holds none
abbrev pub action_in : List Note → ℕ → Action
action_in notes slot = option_map_or (λ scheme. scheme.action) (scheme_of notes slot) Stat

-- to each of these runs the action of its slot is applied, the first one first
abbrev pub after_applied : List Note → List AppliedRun → ReclaimView → ReclaimView
after_applied notes [] r = r
after_applied notes (run ∷ runs) r =
    after_applied notes runs (after_action (action_in notes run.slot) run.start run.pages r)

-- A touch is a touch here too, an aggregation applies the actions of the slots to its runs, and other events move nothing.
abbrev pub after_event : Event → State → ReclaimView → ReclaimView
after_event (touch page) s r = after_touch page r
after_event (aggregate words) s r = after_applied s.notes (served s).runs r
after_event _ s r = r

-- each of these events in order
abbrev pub after_events : List Event → State → ReclaimView → ReclaimView
after_events [] s r = r
after_events (e ∷ es) s r = after_events es (after s e) (after_event e s r)

-- an event that moves no page: neither a touch nor an aggregation
abbrev pub LeavesPages : Event → Type 0
LeavesPages (touch page) = ⊥
LeavesPages (aggregate words) = ⊥
LeavesPages _ = Unit {0}
