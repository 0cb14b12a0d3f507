-- A model that follows the events of a run.
use Rattle.std.proofs.Common.{◌≡◌, ℕ, Bool, false, List, [], ◌∷◌, sym, subst, ◌∙◌}
use Rattle.std.proofs.lemmas.List.{length-replicate}
use Rattle.std.specs.List.{AllByRecursion}
use Rattle.damon_types.specs.Space.{pages_of}
use Rattle.live_commit.specs.Setup.{SetupValue}
use Rattle.damon_core.specs.Event.{Event, touch, aggregate}
use Rattle.damon_core.specs.Reached.{AllFit, run}
use Rattle.damon_core.specs.State.{State, opening, opening_notes}
use Rattle.script_run.specs.Callbacks.{IsStep}
use Rattle.reclaim_module.specs.Calls.{all_resident}
use Rattle.reclaim_module.specs.Pages.{ReclaimView}
use Rattle.reclaim_module.specs.Stands.{LeavesPages, after_events}
use Rattle.reclaim_module.proofs.Lemmas.{events_stand, opening_is_still, stands_at_first}
use Rattle.reclaim_run.specs.Stands.{Models}

-- a model that followed events stands for the state after them
pub models_follow : (es : List Event) (s : State) (r new : ReclaimView) → new ≡ after_events es s r → Models r s → AllFit s es → Models new (run s es)
models_follow es s r new is here fit =
    let all = events_stand es s r here.pages fit here.stands in
    subst (λ x. Models x (run s es)) (sym is) (record { pages = all.0; stands = all.1 })

-- a new model stands for each opening
pub new_models : (pages : ℕ) (m : ReclaimView) (v : SetupValue) → m ≡ all_resident pages → pages_of v.space ≡ pages → Models m (opening v)
new_models pages m v is space =
    let new : Models (all_resident pages) (opening v) = record {
      pages = length-replicate {A = Bool} pages false ∙ sym space;
      stands = stands_at_first pages (opening_notes v) (opening_is_still v);
    } in
    subst (λ r. Models r (opening v)) (sym is) new

-- a step that is no aggregation moves no page
step_leaves : (e : Event) → IsStep e → LeavesPages e
step_leaves (touch page) step = absurd step
step_leaves (aggregate words) step = absurd step
step_leaves _ step = tt

pub steps_leave : (es : List Event) → AllByRecursion IsStep es → AllByRecursion LeavesPages es
steps_leave [] all = tt
steps_leave (e ∷ es) all = (step_leaves e all.0, steps_leave es all.1)
