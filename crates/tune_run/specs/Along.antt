-- What holds along each run with quotas that follow goals.
use Rattle.std.specs.Prelude.{◌≡◌, ℕ, ◌<◌, ◌≤◌, min, ◌&&◌, ◌==◌, List, [], ◌∷◌, ◌++◌, filter, map, Option, Some, IfSome}
use Rattle.std.specs.List.{AllByRecursion}
use Rattle.std.specs.Option.{is_some, option_and_then}
use Rattle.damon_core.specs.After.{after}
use Rattle.damon_core.specs.Event.{Event, commit}
use Rattle.damon_core.specs.Reached.{run}
use Rattle.damon_core.specs.State.{opening}
use Rattle.damon_control.specs.Script.{ScriptValue}
use Rattle.damon_control.specs.Sound.{IsSound}
use Rattle.script_run.specs.BoundAlong.{IsBoundWith}
use Rattle.script_run.specs.Callbacks.{put_after}
use Rattle.script_run.specs.Choices.{ChoosesBestWith}
use Rattle.script_run.specs.Course.{Course, course_after, going_with}
use Rattle.script_run.specs.Going.{onward}
use Rattle.script_run.specs.PutIn.{PutsAreAccepted}
use Rattle.script_run.specs.RunWith.{own_events, start_with}
use Rattle.quota_goal.specs.declared.goals.Goal.{Goal}
use Rattle.quota_goal.specs.declared.moment.Moment.{Moment}
use Rattle.quota_goal.specs.Goals.{IsGoal}
use Rattle.quota_goal.specs.Moment.{score_of}
use Rattle.quota_goal.specs.Tuned.{TunerView, bytes_at, least_of, top_at}
use Rattle.tune_run.specs.Callbacks.{moment_after, tune_callbacks, tuner_in}

-- something holds of each event of the script in its run with tuned quotas, and of the course before the event
abbrev pub AtEachEvent : List Goal → ScriptValue → (Course → Event → Type 0) → Type 0
AtEachEvent goals s P =
    let c = tune_callbacks goals in
    (made rest : List Event) (e : Event) → own_events c s ≡ made ++ e ∷ rest → P (onward (going_with c) (start_with c s) made) e

-- what is put in after an event of the script
abbrev pub put_in : List Goal → Course → Event → List Event
put_in goals r e = put_after (tune_callbacks goals) r.memory r.moment.state e

-- the tuner after an event of the script and these commits that are put in after it
abbrev pub tuner_past : List Goal → Course → Event → List Event → TunerView
tuner_past goals r e puts =
    tuner_in goals ((tune_callbacks goals).keeps r.memory r.moment.state e) (run (after r.moment.state e) puts)

-- the tuner directly after an event of the script
abbrev pub tuner_before : List Goal → Course → Event → TunerView
tuner_before goals r e = tuner_past goals r e []

-- the tuner once all is put in after it
abbrev pub tuner_then : List Goal → Course → Event → TunerView
tuner_then goals r e = tuner_past goals r e (put_in goals r e)

-- the moment at which an event scores goals
abbrev pub moment_of : Course → Event → Option Moment
moment_of r e = moment_after r.moment.state e

-- ---- bytes and tops

-- the bytes in force of each tunable slot are at most its top
abbrev pub AreBelowTops : TunerView → Type 0
AreBelowTops t = (slot : ℕ) → IfSome (bytes_at t slot) (λ bytes. bytes ≤ top_at t slot)

-- this holds after an event of the script, and after each commit that is put in after it
abbrev pub StayBelowTops : List Goal → Course → Event → Type 0
StayBelowTops goals r e = (puts later : List Event) → put_in goals r e ≡ puts ++ later → AreBelowTops (tuner_past goals r e puts)

-- the tuner at the opening of a script
abbrev pub first_tuner : List Goal → ScriptValue → TunerView
first_tuner goals s = tuner_in goals ((tune_callbacks goals).first (opening s.setup)) (opening s.setup)

-- ---- bounds of a slot that was scored

-- the goals of a slot that are scored at a moment
abbrev pub scored_goals : List Goal → ℕ → Moment → List Goal
scored_goals goals slot moment = filter (λ g. (g.slot == slot) && is_some (score_of g.kind moment)) goals

-- the least of a bound of goals, each held down by a top; None without goals
abbrev pub least_held : (Goal → ℕ) → ℕ → List Goal → Option ℕ
least_held bound top goals = least_of (map (λ g. min (bound g) top) goals)

-- bytes lie between the least low bound and the least high bound of goals, each held down by a top
abbrev pub LiesBetween : List Goal → ℕ → ℕ → Type 0
LiesBetween goals top bytes =
    IfSome (least_held (λ g. g.low) top goals) (λ least. least ≤ bytes)
    × IfSome (least_held (λ g. g.high) top goals) (λ most. bytes ≤ most)

-- Directly after a slot was scored its bytes lie between the least low and the least high bound of its scored goals, each held down
-- by its top.
abbrev pub AreTunedWithin : List Goal → Course → Event → Type 0
AreTunedWithin goals r e =
    let t = tuner_then goals r e in
    IfSome (moment_of r e) (λ moment. (slot : ℕ) → IfSome (bytes_at t slot) (LiesBetween (scored_goals goals slot moment) (top_at t slot)))

-- ---- bytes follow the score

-- At a score below the target of a goal bytes that are at most its high bound do not fall, and at any other score bytes that are at
-- least its low bound do not rise. Both bounds are held down by the top.
abbrev pub DoFollow : Goal → ℕ → ℕ → ℕ → ℕ → Type 0
DoFollow g top score bytes new =
    (score < g.target → bytes ≤ min g.high top → bytes ≤ new) × (g.target ≤ score → min g.low top ≤ bytes → new ≤ bytes)

-- Where an event scores one goal alone of a slot, the bytes of the slot follow the score.
abbrev pub FollowTheScore : List Goal → Course → Event → Type 0
FollowTheScore goals r e =
    (moment : Moment) (slot : ℕ) (g : Goal) (score bytes new : ℕ) → moment_of r e ≡ Some moment → scored_goals goals slot moment ≡ g ∷ []
    → score_of g.kind moment ≡ Some score → bytes_at (tuner_before goals r e) slot ≡ Some bytes → bytes_at (tuner_then goals r e) slot ≡ Some new
    → DoFollow g (top_at (tuner_before goals r e) slot) score bytes new

-- ---- as long as the scores stay on one side of the target

-- the goals of a slot
abbrev pub goals_of : List Goal → ℕ → List Goal
goals_of goals slot = filter (λ g. g.slot == slot) goals

-- the score by which an event scores a goal
abbrev pub score_at : Goal → Course → Event → Option ℕ
score_at g r e = option_and_then (score_of g.kind) (moment_of r e)

-- an event that is no commit of the script with a change of this slot
abbrev pub LeavesSlot : ℕ → Event → Type 0
LeavesSlot slot (commit parts) = IfSome parts.slot (λ c. c.slot ≡ slot → ⊥)
LeavesSlot slot _ = Unit {0}

-- from a course on each score of a goal has a property, and the script leaves the slot of the goal as it is
abbrev pub ScoresAre : List Goal → Goal → (ℕ → Type 0) → Course → List Event → Type 0
ScoresAre goals g P r [] = Unit {0}
ScoresAre goals g P r (e ∷ es) =
    LeavesSlot g.slot e × IfSome (score_at g r e) P × ScoresAre goals g P (course_after (tune_callbacks goals) r e) es

-- the bytes in force of a slot at a course
abbrev pub bytes_in : List Goal → Course → ℕ → Option ℕ
bytes_in goals r slot = bytes_at (tuner_in goals r.memory r.moment.state) slot

-- Once the one goal of a slot was scored by an event: over the events after it the bytes of the slot do not fall where the scores
-- stay below the target, and do not rise where they stay at or above it.
abbrev pub StayWithTheScores : List Goal → Course → Event → Type 0
StayWithTheScores goals r e =
    let c = tune_callbacks goals in
    let q = course_after c r e in
    (es : List Event) (g : Goal) (score bytes new : ℕ) → goals_of goals g.slot ≡ g ∷ [] → score_at g r e ≡ Some score
    → bytes_in goals q g.slot ≡ Some bytes → bytes_in goals (onward (going_with c) q es) g.slot ≡ Some new
    → (ScoresAre goals g (λ n. n < g.target) q es → bytes ≤ new) × (ScoresAre goals g (λ n. g.target ≤ n) q es → new ≤ bytes)

-- ---- all of it

-- Along the run of the script with quotas that follow the goals: each state is bound, and each aggregation makes the best choices. Each
-- commit that is put in is accepted. The bytes in force of a tunable slot are at most its top, at first and after each event. Directly
-- after a slot was scored they lie between the least low and the least high bound of its scored goals, each held down by its top. Where
-- it has one such goal, bytes within its bounds do not fall at a score below the target, and do not rise at or above it.
pub record IsTunedRun (goals : List Goal) (s : ScriptValue) : Type 0 where
  pub bound : IsBoundWith (tune_callbacks goals) s
  pub choices : ChoosesBestWith (tune_callbacks goals) s
  pub accepted : PutsAreAccepted (tune_callbacks goals) s
  pub first : AreBelowTops (first_tuner goals s)
  pub tops : AtEachEvent goals s (StayBelowTops goals)
  pub bounds : AtEachEvent goals s (AreTunedWithin goals)
  pub follow : AtEachEvent goals s (FollowTheScore goals)
  pub stay : AtEachEvent goals s (StayWithTheScores goals)

-- the same for each script and goals within their limits
abbrev pub EachTunedRun : Type 0
EachTunedRun = (goals : List Goal) (s : ScriptValue) → AllByRecursion IsGoal goals → IsSound s → IsTunedRun goals s
