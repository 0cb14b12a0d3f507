use Rattle.std.proofs.Common.{◌≡◌, ◌<◌, ℕ, None}
use Rattle.damon_control.specs.Live.{LiveValue}
use Rattle.journal_text.specs.EntryLine.{after_call_of}
use Rattle.journal_check.specs.Folding.{FoldStands}
use Rattle.run_journal.specs.Replay.{JournalValue}
use Rattle.journal_check.proofs.entries.fold.Fold.asked.Given as goal

abbrev pub invariant-loop-controller : goal.invariant-loop-controller
invariant-loop-controller l =
    (v : LiveValue) (j : JournalValue) → FoldStands v j l.self → (k : ℕ) → k < l.controller → after_call_of v j k l.line ≡ None
