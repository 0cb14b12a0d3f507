use Rattle.damon_app.proofs.run.write_report.Given as goal

-- the goals that were given
abbrev pub ghosts-write_tuned : goal.ghosts-write_tuned
ghosts-write_tuned g a = record { goals = a.goals }
