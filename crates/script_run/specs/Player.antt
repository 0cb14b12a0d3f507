-- What a player shows, and what its calls promise.
use Rattle.std.specs.Prelude.{◌≡◌, ℕ, ◌+◌, List, [], ◌∷◌, ◌++◌, sum_by}
use Rattle.rand_core.specs.Stream.{Stream}
use Rattle.damon_core.specs.Event.{Event}
use Rattle.damon_core.specs.Reached.{AllFit, Reached}
use Rattle.damon_core.specs.State.{State}
use Rattle.damon_world.specs.Stands.{WorldView, StandsAt}
use Rattle.snapshot_print.specs.declared.form.Form.{Form}
use Rattle.snapshot_print.specs.Forms.{writing_of}
use Rattle.script_run.specs.declared.callbacks.NoCallbacks.{NoCallbacks}
use Rattle.script_run.specs.Callbacks.{Callbacks, no_callbacks}
use Rattle.script_run.specs.Course.{Course, going_with, with_puts}
use Rattle.script_run.specs.Going.{onward}
use Rattle.script_run.specs.Part.{Part}
use Rattle.script_run.specs.Part as part
use Rattle.script_run.specs.Parts.{parts_events}
use Rattle.script_run.specs.RunWith.{last_text_with, text_from}

-- A player: its world, the callbacks of its owner, the form of its text, what is left of the command under way, and the
-- commands after it.
pub record PlayerOf (R C : Type 0) : Type 0 where
  pub world : WorldView R
  pub callbacks : C
  pub form : Form
  pub part : Part
  pub later : List Part

-- a player without callbacks
abbrev pub PlayerView : Type 0 → Type 0
PlayerView R = PlayerOf R NoCallbacks

-- what has no callbacks stands for each state, whatever is remembered
abbrev pub AnyState : NoCallbacks → List ℕ → State → Type 0
AnyState c memory s = Unit {0}

-- a world stands at the moment of a course, and callbacks stand for its memory and its state
pub record StandAt {R C : Type 0} (stream : R → Stream) (stands : C → List ℕ → State → Type 0) (w : WorldView R) (k : C) (r : Course) : Type 0 where
  pub world : StandsAt stream w r.moment
  pub callbacks : stands k r.memory r.moment.state

-- From each reached course at which a world and callbacks stood these events of the script fit, with those that are put in, and
-- afterwards they stand at the course after them.
abbrev pub PlayTogether : {R C : Type 0} → (R → Stream) → Callbacks → (C → List ℕ → State → Type 0) → WorldView R → WorldView R → C → C → (Course → List Event) → Type 0
PlayTogether stream c stands w w' k k' events = (r : Course) → Reached r.moment.state → StandAt stream stands w k r
    → AllFit r.moment.state (with_puts c r (events r)) × StandAt stream stands w' k' (onward (going_with c) r (events r))

-- a player stands at a course with its callbacks
abbrev pub IsAt : {R C : Type 0} → (R → Stream) → (C → List ℕ → State → Type 0) → PlayerOf R C → Course → Type 0
IsAt stream stands p r = StandAt stream stands p.world p.callbacks r

-- the script's own events that are left, from the course at which the player stands
abbrev pub left_events : {R C : Type 0} → Callbacks → PlayerOf R C → Course → List Event
left_events c p r = parts_events (going_with c) r (p.part ∷ p.later)

-- the text of the events that are left
abbrev pub left_text : {R C : Type 0} → Callbacks → PlayerOf R C → Course → List ℕ
left_text c p r = text_from c (writing_of p.form) r (left_events c p r)

-- The player made the first of the events that were left, the others are left, and the text grew by what was made.
pub record GoesOnWith {R C : Type 0} (stream : R → Stream) (c : Callbacks) (stands : C → List ℕ → State → Type 0)
    (old new : PlayerOf R C) (before after : List ℕ) : Type 0 where
  pub events : Course → List Event
  pub plays : PlayTogether stream c stands old.world new.world old.callbacks new.callbacks events
  pub left : (r : Course) → Reached r.moment.state → IsAt stream stands old r
      → left_events c old r ≡ events r ++ left_events c new (onward (going_with c) r (events r))
  pub text : (r : Course) → Reached r.moment.state → IsAt stream stands old r
      → after ≡ before ++ text_from c (writing_of old.form) r (events r)
  pub form : new.form ≡ old.form

-- the same without callbacks
abbrev pub GoesOn : {R : Type 0} → (R → Stream) → PlayerView R → PlayerView R → List ℕ → List ℕ → Type 0
GoesOn stream old new before after = GoesOnWith stream no_callbacks AnyState old new before after

-- no event is left
abbrev pub IsOverWith : {R C : Type 0} → (R → Stream) → Callbacks → (C → List ℕ → State → Type 0) → PlayerOf R C → Type 0
IsOverWith stream c stands p = (r : Course) → IsAt stream stands p r → left_events c p r ≡ []

-- the same without callbacks
abbrev pub IsOver : {R : Type 0} → (R → Stream) → PlayerView R → Type 0
IsOver stream p = IsOverWith stream no_callbacks AnyState p

-- the text grew by a prefix of a whole
pub record GrowsWithin (whole before after : List ℕ) : Type 0 where
  pub added : List ℕ
  pub unwritten : List ℕ
  pub gained : after ≡ before ++ added
  pub parts : whole ≡ added ++ unwritten

-- the text grew by a prefix of what was left to write
abbrev pub WritesSomeWith : {R C : Type 0} → (R → Stream) → Callbacks → (C → List ℕ → State → Type 0) → PlayerOf R C → List ℕ → List ℕ → Type 0
WritesSomeWith stream c stands old before after = (r : Course) → Reached r.moment.state → IsAt stream stands old r
    → GrowsWithin (left_text c old r) before after

-- the text grew by the last line of the state at which the player stands, and what callbacks write after it
abbrev pub WritesLastWith : {R C : Type 0} → (R → Stream) → Callbacks → (C → List ℕ → State → Type 0) → PlayerOf R C → List ℕ → List ℕ → Type 0
WritesLastWith stream c stands p before after = (r : Course) → IsAt stream stands p r
    → after ≡ before ++ last_text_with c (writing_of p.form) r.memory r.moment.state

-- the same without callbacks
abbrev pub WritesLast : {R : Type 0} → (R → Stream) → PlayerView R → List ℕ → List ℕ → Type 0
WritesLast stream p before after = WritesLastWith stream no_callbacks AnyState p before after

-- how much of a part is left at most: its touches, its steps, or one show or commit
abbrev pub left_of : Part → ℕ
left_of (part.Touches page count) = count
left_of (part.Steps until most) = most
left_of part.Show = 1
left_of (part.Commit parts) = 1

-- how much of parts is left at most, where each counts one more
abbrev pub left_in : List Part → ℕ
left_in parts = sum_by (λ p. 1 + left_of p) parts

-- how much a player has left to do at most: touches, steps, shows, commits and parts
abbrev pub left_moves : {R C : Type 0} → PlayerOf R C → ℕ
left_moves p = left_in (p.part ∷ p.later)
