-- Events other than commits leave the schemes of all slots.
use Rattle.std.proofs.Common.{◌≡◌, ℕ, zero, suc, ◌+◌, refl, sym, ap, ◌∙◌, List, [], ◌∷◌, Option}
use Rattle.std.proofs.Math.Path.{fun_ext}
use Rattle.std.specs.List.{AllByRecursion}
use Rattle.damon_core.specs.After.{after}
use Rattle.damon_core.specs.Event.{Event, touch, prepare, clear, load, observe, aggregate, commit, show}
use Rattle.damon_core.specs.Reached.{run}
use Rattle.damon_core.specs.State.{State}
use Rattle.damon_core.proofs.Lemmas.{IsNoCommit, scheme_stays}
use Rattle.damon_world.specs.Touches.{touches}
use Rattle.script_run.specs.Callbacks.{IsStep}
use Rattle.quota_goal.specs.declared.goals.Goal.{Goal}
use Rattle.quota_goal.specs.declared.moment.Moment.{Moment}
use Rattle.quota_goal.specs.Tuned.{TunerView}
use Rattle.tune_run.specs.Callbacks.{tuner_in}
use Rattle.tune_run.specs.Kept.{StandsTuned}
use Rattle.tune_run.proofs.Slots.{tuner_by}

step_is_no_commit : (e : Event) → IsStep e → IsNoCommit e
step_is_no_commit (touch page) step = absurd step
step_is_no_commit (prepare words) step = tt
step_is_no_commit clear step = tt
step_is_no_commit (load hit) step = tt
step_is_no_commit observe step = tt
step_is_no_commit (aggregate words) step = absurd step
step_is_no_commit (commit parts) step = absurd step
step_is_no_commit show step = absurd step

module _ (goals : List Goal) (tops : List ℕ) where
  pub tuner_stays : (s : State) (e : Event) → IsNoCommit e → tuner_in goals tops (after s e) ≡ tuner_in goals tops s
  tuner_stays s e other = ap (tuner_by goals tops) (fun_ext (scheme_stays s e other))

  pub steps_stay : (s : State) (es : List Event) → AllByRecursion IsStep es → tuner_in goals tops (run s es) ≡ tuner_in goals tops s
  steps_stay s [] steps = refl
  steps_stay s (e ∷ es) steps = steps_stay (after s e) es steps.1 ∙ tuner_stays s e (step_is_no_commit e steps.0)

  pub touches_stand : (t : TunerView) (moment : Option Moment) (s : State) (page count : ℕ) → StandsTuned goals t moment tops s
      → StandsTuned goals t moment tops (run s (touches page count))
  touches_stand t moment s page zero stands = stands
  touches_stand t moment s page (suc n) stands =
      touches_stand t moment (after s (touch page)) (page + 1) n (record { is = stands.is ∙ sym (tuner_stays s (touch page) tt); free = stands.free })
