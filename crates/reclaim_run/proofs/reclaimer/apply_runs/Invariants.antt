use Rattle.std.proofs.Common.{◌≡◌, List, length, take}
use Rattle.damon_core.specs.Note.{Note}
use Rattle.damon_core.specs.Slots.{slots_of}
use Rattle.reclaim_module.specs.Stands.{after_applied}
use Rattle.reclaim_run.proofs.reclaimer.apply_runs.Given as goal

abbrev pub invariant-loop-run : goal.invariant-loop-run
invariant-loop-run l =
    (length l.model.out ≡ length l.fn.model.out)
    × ((notes : List Note) → l.fn.engine.slots ≡ slots_of notes → l.model ≡ after_applied notes (take l.run-index l.fn.runs) l.fn.model)
