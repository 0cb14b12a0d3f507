-- Several contexts that go on line by line.
use Rattle.std.specs.Prelude.{◌≡◌, ℕ, Bool, false, List, [], ◌∷◌, ◌++◌, Result, Ok}
use Rattle.damon_core.specs.Bound.{Bound}
use Rattle.damon_core.specs.Stands.{MonitorView, Stands}
use Rattle.damon_control.specs.declared.fault.ScriptFault.{ScriptFault}
use Rattle.damon_control.specs.declared.grammar.Grammar.TheVariants.{OfScript}
use Rattle.damon_control.specs.Script.{Place, ScriptValue, script_of}
use Rattle.script_run.specs.Played.{up_to}
use Rattle.script_run.specs.Report.{last_state}
use Rattle.damon_admin.specs.Lines.{ContextLine, context_text, lines_of}
use Rattle.damon_admin.specs.Written.{commands_at, line_text, place_of, texts_from}

-- the lines of the input that are done, those that are left, and whether memory has run out
pub record AdminView : Type 0 where
  pub done : List ContextLine
  pub left : List ContextLine
  pub failed : Bool

-- all lines of the input
abbrev pub all_lines : AdminView → List ContextLine
all_lines a = a.done ++ a.left

-- the next line was done, and the output grew by what it writes
pub record DoesLine (old new : AdminView) (before after : List ℕ) : Type 0 where
  pub line : ContextLine
  pub left : old.left ≡ line ∷ new.left
  pub done : new.done ≡ old.done ++ line ∷ []
  pub failed : new.failed ≡ false
  pub text : after ≡ before ++ line_text (all_lines old) old.done line

-- what the lines that are left write
abbrev pub left_text : AdminView → List ℕ
left_text a = texts_from (all_lines a) a.done a.left

-- the script that the lines of a context say, or their fault
abbrev pub script_in : ℕ → AdminView → Result ScriptValue ScriptFault
script_in context a = script_of (context_text context (all_lines a))

-- the lines of a context are a script
abbrev pub IsScript : ℕ → AdminView → Type 0
IsScript context a = (s : ScriptValue) × (script_in context a ≡ Ok s)

-- The monitor of a context stands for the state after the commands of the context's lines so far, which is bound.
pub record IsMonitorOf (context : ℕ) (a : AdminView) (m : MonitorView) : Type 0 where
  pub script : ScriptValue
  pub said : script_in context a ≡ Ok script
  pub place : Place OfScript
  pub so_far : place_of (lines_of context a.done) ≡ Ok place
  pub stands : Stands m (last_state (up_to script (commands_at place)))
  pub bound : Bound (last_state (up_to script (commands_at place)))
