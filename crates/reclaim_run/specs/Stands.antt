-- The callbacks of proactive reclaim as contracts see them, and for which states they stand.
use Rattle.std.specs.Prelude.{◌≡◌, ℕ, not, List, [], ◌∷◌, length, count_by, Option, Some, None}
use Rattle.damon_core.specs.Event.{Event, commit}
use Rattle.damon_core.specs.State.{State}
use Rattle.reclaim_module.specs.Pages.{ReclaimView, out_count}
use Rattle.reclaim_module.specs.Stands.{ReclaimStands}
use Rattle.reclaim_run.specs.Reclaimed.{Figures, metric_commit, pages_in}

-- The model of the pages that are out, and the metric of a commit that is still to be put in.
pub record ReclaimerView : Type 0 where
  pub model : ReclaimView
  pub share : Option ℕ

-- a model of the pages of a state's space stands for the state
pub record Models (r : ReclaimView) (s : State) : Type 0 where
  pub pages : length r.out ≡ pages_in s
  pub stands : ReclaimStands r s.notes

-- the figures of a model
abbrev pub figures_of : ReclaimView → Figures
figures_of r = record { resident = count_by not r.out; out = out_count r.out; counts = r.counts }

-- the commit of a metric that is still to be put in
abbrev pub put_of : Option ℕ → List Event
put_of None = []
put_of (Some share) = commit (metric_commit share) ∷ []
