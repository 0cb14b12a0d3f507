use Rattle.std.proofs.Common.{length}
use Rattle.damon_control.specs.LiveView.{live_said}
use Rattle.damon_live.proofs.alone.run_alone.Given as goal

-- the table that was just made, and the script that was given
abbrev pub ghosts-run_named : goal.ghosts-run_named
ghosts-run_named a = record { table = a.table.words; script = live_said a.script.now; seats = length (live_said a.script.now).workers }
