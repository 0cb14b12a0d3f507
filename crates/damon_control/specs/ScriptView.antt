-- What a script shows.
use Rattle.live_commit.specs.SetupView.{value_of}
use Rattle.damon_control.specs.declared.script.Script.{Script}
use Rattle.damon_control.specs.Script.{ScriptValue}

-- what a script says, without the proof of its limits
abbrev pub said_by : Script → ScriptValue
said_by s = record { seed = s.seed; setup = value_of s.setup; commands = s.commands.list }
