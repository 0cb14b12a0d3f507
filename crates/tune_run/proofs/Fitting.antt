-- Commits that are put in fit wherever they are put in.
use Rattle.std.proofs.Common.{List, [], ◌∷◌, Some, None}
use Rattle.std.specs.List.{range_with_len}
use Rattle.std.specs.Option.{option_map_or}
use Rattle.damon_types.specs.declared.scheme.SlotChange.{SlotChange}
use Rattle.damon_core.specs.After.{after}
use Rattle.damon_core.specs.Event.{commit}
use Rattle.damon_core.specs.Slots.{slot_count}
use Rattle.damon_core.specs.State.{State}
use Rattle.script_run.specs.Callbacks.{FitAlways, FitByHit}
use Rattle.quota_goal.specs.declared.goals.Goal.{Goal}
use Rattle.tune_run.specs.Callbacks.{change_alone, changes_at, commits_of, moment_after, tune_callbacks, tuned_by, tuner_in}

commits_fit : (changes : List SlotChange) (s : State) → FitByHit s (commits_of changes)
commits_fit [] s = record { fit = tt; by_hit = tt }
commits_fit (c ∷ changes) s =
    let rest = commits_fit changes (after s (commit (change_alone c))) in
    record { fit = (tt, rest.fit); by_hit = (tt, rest.by_hit) }

pub fit_always : (goals : List Goal) → FitAlways (tune_callbacks goals)
fit_always goals tops s e reached fits =
    let t = tuner_in goals ((tune_callbacks goals).keeps tops s e) (after s e) in
    elim (moment_after s e) as (λ o. FitByHit (after s e) (option_map_or (tuned_by t) o [])) [
      | None ↦ commits_fit [] (after s e)
      | Some m ↦ commits_fit (changes_at t m (range_with_len 0 slot_count)) (after s e)
    ]
