-- What the lines of a body say to the program.
use Rattle.std.specs.Prelude.{ℕ, List, Result, Ok, Err}
use Rattle.damon_control.specs.declared.body.BodyLine.{BodyLine}
use Rattle.damon_control.specs.declared.body.BodyLine.TheVariants.{End, Commit, Say}
use Rattle.script_lines.specs.declared.kind.ScriptKind.{ScriptKind}
use Rattle.damon_control.specs.declared.grammar.Grammar.TheVariants.{OfScript}
use Rattle.script_lines.specs.Command.{CommandValue, command_value}
use Rattle.live_commit.specs.Setup.{SetupValue}
use Rattle.script_lines.specs.Body.{no_commit}
use Rattle.script_lines.specs.Limits.{IsCommandWithin}
use Rattle.damon_control.specs.Script.{AtEnd, Body, InCommit, Place, ScriptValue, with_command}

-- the place after a line of a body that was read, or why it was rejected
abbrev pub body_said : Body → Result BodyLine ScriptKind → Result (Place OfScript) ScriptKind
body_said b (Ok End) = Ok (AtEnd b.said)
body_said b (Ok Commit) = Ok (InCommit b no_commit)
body_said b (Ok (Say command)) = with_command b (command_value command)
body_said b (Err kind) = Err kind

-- the command of a line, if it says one, is within its limits
abbrev pub LineIsWithin : ℕ → BodyLine → Type 0
LineIsWithin pages End = Unit {0}
LineIsWithin pages Commit = Unit {0}
LineIsWithin pages (Say command) = IsCommandWithin pages (command_value command)

-- a script with these commands
abbrev pub script_at : ℕ → SetupValue → List CommandValue → ScriptValue
script_at seed setup commands = record { seed = seed; setup = setup; commands = commands }

-- a body with these commands, and this work of theirs
abbrev pub body_at : ℕ → SetupValue → List CommandValue → ℕ → Body
body_at seed setup commands work = record { said = script_at seed setup commands; work = work }
