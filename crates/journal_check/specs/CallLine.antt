-- What the lines of a call lead to.
use Rattle.std.specs.Prelude.{◌≡◌, ℕ, Result}
use Rattle.script_lines.specs.Body.{no_commit}
use Rattle.damon_control.specs.Live.{LiveValue, ShowCall}
use Rattle.journal_check.specs.declared.entries.fold.Fold.{Fold}
use Rattle.journal_check.specs.declared.entries.calls.Asked.{Asked}
use Rattle.journal_check.specs.declared.entries.calls.Asked.TheVariants.{Show, Commit}
use Rattle.journal_check.specs.declared.journal_lines.JournalLines.{JournalLines}
use Rattle.journal_check.specs.Folding.{FoldStands}
use Rattle.journal_check.specs.LinesLeft.{said_left}
use Rattle.journal_text.specs.Place.{AtAnswer, InBlock, InEntries, JournalPlace, JournalRead}
use Rattle.run_journal.specs.Replay.{JournalValue}

-- the place after the first line of a call, by what it asks for
abbrev pub place_asked : LiveValue → JournalValue → ℕ → Asked → JournalPlace
place_asked v j controller Show = AtAnswer v j controller ShowCall
place_asked v j controller Commit = InBlock v j controller no_commit

-- what a text says is what the lines that are left say after the entries that are carried out
abbrev pub ReadsOn : Result JournalRead ℕ → JournalLines → Fold → Type 0
ReadsOn said lines f = (w : LiveValue) × (k : JournalValue) × FoldStands w k f × (said ≡ said_left (InEntries w k) lines)
