-- The results of the loads among the events of a world are those of its pages.
use Rattle.std.proofs.Common.{◌≡◌, ℕ, zero, suc, ◌+◌, Bool, true, false, refl, cond, sym, subst}
use Rattle.std.specs.Prelude.{◌==◌}
use Rattle.rand_core.specs.Stream.{Stream}
use Rattle.live_commit.specs.declared.phase.Phase.{Phase}
use Rattle.live_commit.specs.declared.phase.Phase.TheVariants.{Armed, Checking}
use Rattle.damon_core.specs.State.{State, row_count}
use Rattle.damon_core.specs.Event.{ByHit, load, next_hit, observe, touch}
use Rattle.damon_core.specs.After.{after}
use Rattle.damon_core.proofs.Lemmas.{ReachedByHit-run}
use Rattle.damon_core.specs.Reached.{AllByHit, AllFit, ReachedByHit, run}
use Rattle.damon_world.specs.Moment.{Moment, event_in, events_of_steps, moved, next_event, stepped_times}
use Rattle.damon_world.specs.Plays.{Plays, PlaysByHit}
use Rattle.damon_world.proofs.Following.{PlaysByHit-from, along-state}
use Rattle.damon_world.specs.Stands.{WorldView}
use Rattle.damon_world.specs.Touches.{touches}

by_hit-choice : (b : Bool) (s : State) → ByHit s (cond b observe (load (next_hit s)))
by_hit-choice true s = tt
by_hit-choice false s = refl

pub by_hit-in : (ph : Phase) (s : State) (t : Stream) → ByHit s (event_in ph s t)
by_hit-in Armed s t = refl
by_hit-in (Checking k) s t = by_hit-choice (k == row_count s.core) s
by_hit-in _ s t = tt

pub steps_by_hit : (n : ℕ) (m : Moment) → AllByHit m.state (events_of_steps n m)
steps_by_hit zero m = tt
steps_by_hit (suc n) m = (by_hit-in m.state.core.phase m.state m.stream, steps_by_hit n (moved m (next_event m.state m.stream)))

pub touches_by_hit : (n page : ℕ) (s : State) → AllByHit s (touches page n)
touches_by_hit zero page s = tt
touches_by_hit (suc n) page s = (tt, touches_by_hit n (page + 1) (after s (touch page)))

-- the state after steps that fit
pub stepped_by_hit : (m : Moment) (n : ℕ) → ReachedByHit m.state → AllFit m.state (events_of_steps n m) → ReachedByHit (stepped_times n m).state
stepped_by_hit m n reached fit = subst ReachedByHit (sym (along-state m (events_of_steps n m))) (ReachedByHit-run m.state (events_of_steps n m) reached fit (steps_by_hit n m))

-- the state after touches that fit
pub touched_by_hit : (s : State) (page n : ℕ) → ReachedByHit s → AllFit s (touches page n) → ReachedByHit (run s (touches page n))
touched_by_hit s page n reached fit = ReachedByHit-run s (touches page n) reached fit (touches_by_hit n page s)

-- steps are played so
pub plays_by_hit : {R : Type 0} (stream : R → Stream) (old new : WorldView R) (n : ℕ) → Plays stream old new (events_of_steps n) → PlaysByHit stream old new (events_of_steps n)
plays_by_hit stream old new n plays = PlaysByHit-from stream old new (events_of_steps n) (steps_by_hit n) plays

-- one step, where so many are told
pub one_by_hit : {R : Type 0} (stream : R → Stream) (old new : WorldView R) (n : ℕ) → n ≡ 1 → Plays stream old new (events_of_steps 1) → PlaysByHit stream old new (events_of_steps n)
one_by_hit stream old new n one plays = subst (λ k. PlaysByHit stream old new (events_of_steps k)) (sym one) (plays_by_hit stream old new 1 plays)
