-- The report of a script with quotas that follow goals.
use Rattle.std.specs.Prelude.{ℕ, List}
use Rattle.damon_control.specs.Script.{ScriptValue}
use Rattle.snapshot_print.specs.Lines.{as_text}
use Rattle.script_run.specs.RunWith.{report_with}
use Rattle.quota_goal.specs.declared.goals.Goal.{Goal}
use Rattle.tune_run.specs.Callbacks.{tune_callbacks}

-- what the events of the script and those that are put in write, the last line, and the bytes of the slots with goals
abbrev pub tuned_report : List Goal → ScriptValue → List ℕ
tuned_report goals s = report_with (tune_callbacks goals) as_text s
