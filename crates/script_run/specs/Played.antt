-- A player that plays one command after another.
use Rattle.std.specs.Prelude.{◌≡◌, ℕ, List, [], ◌∷◌, ◌++◌, true}
use Rattle.rand_core.specs.Stream.{Stream}
use Rattle.damon_core.specs.State.{State, opening}
use Rattle.script_lines.specs.Command.{CommandValue}
use Rattle.damon_control.specs.Script.{ScriptValue}
use Rattle.snapshot_print.specs.declared.form.Form.{Form}
use Rattle.snapshot_print.specs.Writing.{Writing}
use Rattle.script_run.specs.Callbacks.{Callbacks}
use Rattle.script_run.specs.Part.{Part}
use Rattle.script_run.specs.Parts.{is_done, parts_of}
use Rattle.script_run.specs.Player.{GoesOnWith, IsOver, IsOverWith, PlayerOf, PlayerView}
use Rattle.script_run.specs.Report.{events_text}
use Rattle.script_run.specs.Unfold.{unfold_script}
use Rattle.script_run.specs.Way.{IsOnItsWay}

-- a player of which other commands follow the one under way
abbrev pub with_later : {R C : Type 0} → PlayerOf R C → List Part → PlayerOf R C
with_later p later = record p { later = later }

-- the player made some of the events that are left of the command under way, whatever commands follow it
pub record PlaysOnWith {R C : Type 0} (stream : R → Stream) (c : Callbacks) (stands : C → List ℕ → State → Type 0)
    (old new : PlayerOf R C) (before after : List ℕ) : Type 0 where
  pub later : new.later ≡ old.later
  pub on : (later : List Part) → GoesOnWith stream c stands (with_later old later) (with_later new later) before after

-- the player made the first of the events of the next command, whatever commands follow it
pub record BeginsWith {R C : Type 0} (stream : R → Stream) (c : Callbacks) (stands : C → List ℕ → State → Type 0)
    (old new : PlayerOf R C) (before after : List ℕ) : Type 0 where
  pub next : Part
  pub first : old.later ≡ next ∷ new.later
  pub on : (later : List Part) → GoesOnWith stream c stands (with_later old (next ∷ later)) (with_later new later) before after

-- The player made all events of the next command and no other, and the text grew by theirs: it went on as if this were the only
-- command that is left, and no event of it is left.
pub record PlaysNextWith {R C : Type 0} (stream : R → Stream) (c : Callbacks) (stands : C → List ℕ → State → Type 0)
    (old new : PlayerOf R C) (before after : List ℕ) : Type 0 where
  pub next : Part
  pub first : old.later ≡ next ∷ new.later
  pub on : GoesOnWith stream c stands (with_later old (next ∷ [])) (with_later new []) before after
  pub over : IsOverWith stream c stands (with_later new [])
  pub done : is_done new.part new.world.monitor.core.phase ≡ true

-- a script with these commands in place of its own
abbrev pub up_to : ScriptValue → List CommandValue → ScriptValue
up_to s commands = record s { commands = commands }

-- what the commands of a script write: its report without the last line
abbrev pub commands_text : Writing → ScriptValue → List ℕ
commands_text w s = events_text w (opening s.setup) (unfold_script s)

-- A player that carried out these commands of the script, the first ones, and nothing of another; this is their text, and the
-- other commands are left.
pub record HasPlayed {R : Type 0} (stream : R → Stream) (s : ScriptValue) (f : Form) (commands : List CommandValue)
    (p : PlayerView R) (text : List ℕ) : Type 0 where
  pub way : IsOnItsWay stream (up_to s commands) f (with_later p []) text
  pub over : IsOver stream (with_later p [])
  pub done : is_done p.part p.world.monitor.core.phase ≡ true
  pub rest : List CommandValue
  pub all : s.commands ≡ commands ++ rest
  pub later : p.later ≡ parts_of s.setup.cap rest
