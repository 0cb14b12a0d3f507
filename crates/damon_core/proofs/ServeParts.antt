-- The parts of what serving a set slot makes, by name.
use Rattle.std.specs.Prelude.{ℕ, List, [], ◌∷◌, Option, if◌then◌else◌}
use Rattle.damon_types.specs.declared.scheme.Scheme.{Scheme}
use Rattle.damon_types.specs.declared.space.Target.{Target}
use Rattle.region_list.specs.Regions.{RegionList}
use Rattle.quota_charge.specs.Quota.{left_of}
use Rattle.scheme_engine.specs.Outcome.{Outcome, outcome_of}
use Rattle.scheme_engine.specs.Served.{choice_of, no_choice}
use Rattle.damon_core.specs.Note.{Note, ran}
use Rattle.damon_core.specs.Serve.{Serving}
use Rattle.damon_core.specs.Slots.{charged_of, cost_of, is_active_in}

-- the scheme of a slot was run, with what was left of its quota
abbrev pub run_served : ℕ → ℕ → Option ℕ → List Note → Outcome → Serving
run_served slot tick left notes o =
    record { rows = o.rows; notes = ran slot tick o.tried o.runs o.exceeds ∷ notes; runs = o.runs; choices = choice_of slot left o ∷ [] }

-- a set slot once its window may have begun anew: its scheme is run with what is left of its quota, if it is active
abbrev pub serve_now : ℕ → List Target → ℕ → ℕ → RegionList → List Note → Scheme → Serving
serve_now slot space aggr tick regions now scheme =
    let left = left_of scheme.quota (cost_of now slot) (charged_of now slot) in
    if is_active_in now slot scheme then run_served slot tick left now (outcome_of slot space aggr scheme left regions)
    else record { rows = regions.rows; notes = now; runs = []; choices = no_choice slot ∷ [] }
