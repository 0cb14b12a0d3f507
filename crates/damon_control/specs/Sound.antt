-- What the setup, the commands and the calls of each script and each live script keep.
use Rattle.std.specs.Prelude.{◌≡◌, ℕ, ◌≤◌, List, Ok}
use Rattle.std.specs.List.{AllByRecursion}
use Rattle.damon_types.specs.Ranges.{InOrder}
use Rattle.damon_types.specs.Space.{IsSpace, pages_of}
use Rattle.live_commit.specs.Setup.{IsSetup}
use Rattle.damon_control.specs.declared.script.TheConstants.{MAX_WORK}
use Rattle.script_lines.specs.Command.{work_of}
use Rattle.script_lines.specs.Limits.{AreCommandsWithin}
use Rattle.damon_control.specs.Live.{CallValue, CommitCall, LiveValue, ShowCall}
use Rattle.damon_control.specs.LiveText.{KeepsLimits}
use Rattle.damon_control.specs.Script.{ScriptValue, script_of}
use Rattle.damon_control.specs.WriteBack.{SpellsRanges}

-- a script within its limits: those of a space, of a setup with its ranges in order, of each command, and of the work in
-- all
pub record IsSound (s : ScriptValue) : Type 0 where
  pub space : IsSpace s.setup.space
  pub setup : IsSetup s.setup
  pub order : InOrder s.setup.ranges
  pub commands : AreCommandsWithin (pages_of s.setup.space) s.commands
  pub work : work_of s.setup.cap s.commands ≤ MAX_WORK

-- each text that is read as a script gives one within its limits
abbrev pub ScriptsAreSound : Type 0
ScriptsAreSound = (text : List ℕ) (s : ScriptValue) → script_of text ≡ Ok s → IsSound s

-- a text can spell a call: a commit has no empty list of ranges
abbrev pub IsSpelledCall : CallValue → Type 0
IsSpelledCall ShowCall = Unit {0}
IsSpelledCall (CommitCall parts) = SpellsRanges parts

-- a text can spell all calls of a live script
abbrev pub SpellsCalls : LiveValue → Type 0
SpellsCalls v = AllByRecursion (λ calls. AllByRecursion IsSpelledCall calls) v.controllers

-- a live script within its limits: those of a space, of a setup with its ranges in order, and of its passes, workers and
-- calls, each of which a text can spell
pub record IsLiveSound (v : LiveValue) : Type 0 where
  pub space : IsSpace v.setup.space
  pub setup : IsSetup v.setup
  pub order : InOrder v.setup.ranges
  pub limits : KeepsLimits v
  pub spelled : SpellsCalls v
