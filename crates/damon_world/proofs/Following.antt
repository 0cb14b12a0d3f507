-- How the events of moments follow each other, and those of steps.
use Rattle.std.proofs.Common.{◌≡◌, ℕ, zero, suc, ◌+◌, List, [], ◌∷◌, ◌++◌, refl, ap, sym, subst, ◌∙◌, arith}
use Rattle.rand_core.specs.Stream.{Stream}
use Rattle.damon_core.specs.Event.{Event}
use Rattle.damon_core.specs.Reached.{AllByHit, AllFit, Reached, ReachedByHit, run}
use Rattle.damon_core.proofs.Lemmas.{Reached-run, ReachedByHit-run, reached_of}
use Rattle.damon_world.specs.Moment.{Moment, along, events_of_steps, moved, next_event, stepped, stepped_times}
use Rattle.damon_world.specs.Plays.{Plays, PlaysByHit}
use Rattle.damon_world.specs.Stands.{WorldView}

-- the state of the moment after events
pub along-state : (m : Moment) (es : List Event) → (along m es).state ≡ run m.state es
along-state m [] = refl
along-state m (e ∷ es) = along-state (moved m e) es

-- the moment after events and then others
pub along-append : (m : Moment) (es fs : List Event) → along m (es ++ fs) ≡ along (along m es) fs
along-append m [] fs = refl
along-append m (e ∷ es) fs = along-append (moved m e) es fs

-- the state of the moment after events that fit is reached
pub Reached-along : (m : Moment) (es : List Event) → Reached m.state → AllFit m.state es → Reached (along m es).state
Reached-along m es reached fit = subst Reached (sym (along-state m es)) (Reached-run m.state es reached fit)

-- what plays events whose results are those of their pages
pub PlaysByHit-from : {R : Type 0} (stream : R → Stream) (old new : WorldView R) (es : Moment → List Event) → ((m : Moment) → AllByHit m.state (es m)) → Plays stream old new es → PlaysByHit stream old new es
PlaysByHit-from stream old new es hit plays m reached here =
    let made = plays m (reached_of m.state reached) here in
    (subst ReachedByHit (sym (along-state m (es m))) (ReachedByHit-run m.state (es m) reached made.0 (hit m)), made.1)

-- the events of one step more
pub events_more : (n : ℕ) (m : Moment) → events_of_steps (suc n) m ≡ events_of_steps n m ++ next_event (stepped_times n m).state (stepped_times n m).stream ∷ []
events_more zero m = refl
events_more (suc n) m = let e = next_event m.state m.stream in ap (λ es. e ∷ es) (events_more n (moved m e))

-- the moment after one step more
pub stepped_more : (n : ℕ) (m : Moment) → stepped_times (suc n) m ≡ stepped (stepped_times n m)
stepped_more n m =
    let x = stepped_times n m in
    ap (along m) (events_more n m) ∙ along-append m (events_of_steps n m) (next_event x.state x.stream ∷ [])

-- the events of steps and of those that follow
pub events_append : (n k : ℕ) (m : Moment) → events_of_steps (n + k) m ≡ events_of_steps n m ++ events_of_steps k (stepped_times n m)
events_append zero k m = let none : 0 + k ≡ k = omega arith in ap (λ i. events_of_steps i m) none
events_append (suc n) k m =
    let e = next_event m.state m.stream in
    let one : suc n + k ≡ suc (n + k) = omega arith in
    ap (λ i. events_of_steps i m) one ∙ ap (λ es. e ∷ es) (events_append n k (moved m e))
