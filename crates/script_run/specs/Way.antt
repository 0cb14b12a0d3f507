-- A player on its way through a script, and what was written where it stops.
use Rattle.std.specs.Prelude.{◌≡◌, ℕ, List, ◌++◌}
use Rattle.rand_core.specs.Stream.{Stream}
use Rattle.damon_core.specs.State.{State, opening}
use Rattle.damon_core.specs.Event.{Event}
use Rattle.damon_core.specs.Reached.{AllFit, CanOpen}
use Rattle.damon_control.specs.Script.{ScriptValue}
use Rattle.snapshot_print.specs.declared.form.Form.{Form}
use Rattle.snapshot_print.specs.Forms.{writing_of}
use Rattle.script_run.specs.Callbacks.{Callbacks, no_callbacks}
use Rattle.script_run.specs.Course.{going_with, with_puts}
use Rattle.script_run.specs.Going.{onward}
use Rattle.script_run.specs.RunWith.{own_events, report_with, start_with, text_from}
use Rattle.script_run.specs.Player.{AnyState, IsAt, PlayerOf, PlayerView, left_events}

-- The player made the first of the script's own events, with those that its callbacks put in, and all these fit from its
-- opening; it stands at the course after them; the others are left; and this is the text of those that it made.
pub record IsOnItsWayWith {R C : Type 0} (stream : R → Stream) (c : Callbacks) (stands_for : C → List ℕ → State → Type 0) (s : ScriptValue) (f : Form)
    (p : PlayerOf R C) (text : List ℕ) : Type 0 where
  pub can_open : CanOpen s.setup
  pub made : List Event
  pub fit : AllFit (opening s.setup) (with_puts c (start_with c s) made)
  pub stands : IsAt stream stands_for p (onward (going_with c) (start_with c s) made)
  pub left : own_events c s ≡ made ++ left_events c p (onward (going_with c) (start_with c s) made)
  pub written : text ≡ text_from c (writing_of f) (start_with c s) made
  pub form : p.form ≡ f

-- the same without callbacks
abbrev pub IsOnItsWay : {R : Type 0} → (R → Stream) → ScriptValue → Form → PlayerView R → List ℕ → Type 0
IsOnItsWay stream s f p text = IsOnItsWayWith stream no_callbacks AnyState s f p text

-- a text that a player still gives: after what it wrote so far it ends the report of its script
abbrev pub IsLeftWith : {R C : Type 0} → (R → Stream) → Callbacks → (C → List ℕ → State → Type 0) → PlayerOf R C → List ℕ → Type 0
IsLeftWith stream c stands_for p text = (s : ScriptValue) × (f : Form) × (written : List ℕ)
    × IsOnItsWayWith stream c stands_for s f p written × (written ++ text ≡ report_with c (writing_of f) s)
