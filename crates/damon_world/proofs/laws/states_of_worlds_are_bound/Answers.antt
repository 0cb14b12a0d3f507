use Rattle.std.proofs.Common.{[], ◌∷◌}
use Rattle.damon_core.specs.Event.{commit}
use Rattle.damon_core.proofs.Lemmas.{ReachedByHit-run}
use Rattle.damon_world.proofs.Hits.{stepped_by_hit, touched_by_hit}
use Rattle.damon_world.proofs.laws.states_of_worlds_are_bound.Goals as goal

pub returns : goal.returns
returns c = record {
  touches = touched_by_hit;
  commits = λ s parts reached. ReachedByHit-run s (commit parts ∷ []) reached (tt, tt) (tt, tt);
  steps = stepped_by_hit;
  reached = λ s is. record { setup = is.setup; events = is.events; can_open = is.can_open; fit = is.fit; is = is.is };
  bound = c.reached_states_are_bound.ensures.bound;
}
