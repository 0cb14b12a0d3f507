-- A model that follows events one after another.
use Rattle.std.proofs.Common.{◌≡◌, List, [], ◌∷◌, length, refl, sym, ap, ◌∙◌}
use Rattle.std.specs.Prelude.{Bool, Result, Ok, Err}
use Rattle.std.specs.List.{AllByRecursion}
use Rattle.damon_types.specs.Space.{pages_of}
use Rattle.live_commit.specs.declared.fault.CommitFault.{CommitFault}
use Rattle.live_commit.specs.declared.phase.Phase.{Phase}
use Rattle.live_commit.specs.declared.phase.Phase.TheVariants.{Clearing, Armed, Checking, Void}
use Rattle.live_commit.specs.Commit.{CommitValue}
use Rattle.damon_core.specs.After.{after, by_clear, by_load, by_observe}
use Rattle.damon_core.specs.Commit.{check_of, committed, if_accepted}
use Rattle.damon_core.specs.Event.{Event, Fits, touch, clear, load, observe, aggregate, commit}
use Rattle.damon_core.specs.Reached.{AllFit, run}
use Rattle.damon_core.specs.State.{State}
use Rattle.reclaim_module.specs.Pages.{ReclaimView}
use Rattle.reclaim_module.specs.Stands.{LeavesPages, ReclaimStands, after_event, after_events}
use Rattle.reclaim_module.proofs.Serving.{event_stands, length_after_event}

-- the space stays
clear_space : (phase : Phase) (s : State) → (by_clear phase s).core.space ≡ s.core.space
clear_space (Clearing k) s = refl
clear_space _ s = refl

load_space : (phase : Phase) (hit : Bool) (s : State) → (by_load phase hit s).core.space ≡ s.core.space
load_space Armed hit s = refl
load_space (Checking k) hit s = refl
load_space _ hit s = refl

observe_space : (phase : Phase) (s : State) → (by_observe phase s).core.space ≡ s.core.space
observe_space (Checking k) s = refl
observe_space Void s = refl
observe_space _ s = refl

commit_space : (parts : CommitValue) (s : State) (check : Result (Unit {0}) CommitFault) → (if_accepted check (committed parts s) s).core.space ≡ s.core.space
commit_space parts s (Ok t) = refl
commit_space parts s (Err fault) = refl

pub space_stays : (e : Event) (s : State) → (after s e).core.space ≡ s.core.space
space_stays clear s = clear_space s.core.phase s
space_stays (load hit) s = load_space s.core.phase hit s
space_stays observe s = observe_space s.core.phase s
space_stays (commit parts) s = commit_space parts s (check_of parts s.core)
space_stays _ s = refl

-- what each event keeps of a model and a state, over a space of as many pages, events in order keep
pub events_keep : (P : ReclaimView → State → Type 0) → ((e : Event) (s : State) (r : ReclaimView) → length r.out ≡ pages_of s.core.space → Fits s e → P r s → P (after_event e s r) (after s e))
    → (es : List Event) (s : State) (r : ReclaimView) → length r.out ≡ pages_of s.core.space → AllFit s es → P r s → (length (after_events es s r).out ≡ pages_of (run s es).core.space) × P (after_events es s r) (run s es)
events_keep P kept [] s r len fit here = (len, here)
events_keep P kept (e ∷ es) s r len fit here =
    events_keep P kept es (after s e) (after_event e s r) (length_after_event e s r ∙ len ∙ ap pages_of (sym (space_stays e s))) fit.1 (kept e s r len fit.0 here)

pub events_stand : (es : List Event) (s : State) (r : ReclaimView) → length r.out ≡ pages_of s.core.space → AllFit s es → ReclaimStands r s.notes → (length (after_events es s r).out ≡ pages_of (run s es).core.space) × ReclaimStands (after_events es s r) (run s es).notes
events_stand = events_keep (λ r s. ReclaimStands r s.notes) event_stands

-- events that move no page
event_leaves : (e : Event) (s : State) (r : ReclaimView) → LeavesPages e → after_event e s r ≡ r
event_leaves (touch page) s r leaves = absurd leaves
event_leaves (aggregate words) s r leaves = absurd leaves
event_leaves _ s r leaves = refl

pub events_leave : (es : List Event) (s : State) (r : ReclaimView) → AllByRecursion LeavesPages es → after_events es s r ≡ r
events_leave [] s r all = refl
events_leave (e ∷ es) s r all = ap (after_events es (after s e)) (event_leaves e s r all.0) ∙ events_leave es (after s e) r all.1
