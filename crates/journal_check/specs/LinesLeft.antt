-- What is left of a journal text, and what is said by it.
use Rattle.std.specs.Prelude.{◌≡◌, ℕ, ◌+◌, ◌≤◌, List, length, Result, Ok, Err}
use Rattle.std.specs.Option.{ok_or}
use Rattle.line_text.specs.Parts.{parts}
use Rattle.script_lines.specs.Refusal.{◌>>=◌}
use Rattle.damon_control.specs.declared.reader.TheConstants.{MAX_BYTES}
use Rattle.journal_check.specs.declared.journal_lines.JournalLines.{JournalLines}
use Rattle.run_journal.specs.declared.lawful.VerifyFault.{VerifyFault}
use Rattle.run_journal.specs.declared.lawful.VerifyFault.TheVariants.{Unlawful, Memory}
use Rattle.journal_text.specs.Place.{AtLast, JournalPlace, JournalRead}
use Rattle.journal_text.specs.Reading.{line_after, said_from}

-- the lines that were taken and the bytes that are left are together at most MAX_BYTES
abbrev pub IsShort : JournalLines → Type 0
IsShort lines = lines.taken + length lines.rest.now ≤ MAX_BYTES

-- the lines that are left, and the bytes after the last
abbrev pub lines_left : JournalLines → List (List ℕ)
lines_left lines = parts 10 lines.rest.now

-- what is said from a place on by the lines that are left
abbrev pub said_left : JournalPlace → JournalLines → Result JournalRead ℕ
said_left place lines = said_from (lines.taken + 1) place (lines_left lines)

-- what is said from a place on by a line, which was taken, and those that are left after it
abbrev pub said_on : JournalPlace → List ℕ → JournalLines → Result JournalRead ℕ
said_on place line lines = ok_or (line_after place line) lines.taken >>= λ next. said_left next lines

-- a place that wants a line: after any but the last
abbrev pub WantsLine : JournalPlace → Type 0
WantsLine (AtLast said wanted) = ⊥
WantsLine _ = Unit {0}

-- a fault that is returned is the first rejected line of the text; out of memory says nothing of the text
abbrev pub IsFault : VerifyFault → Result JournalRead ℕ → Type 0
IsFault (Unlawful line) said = said ≡ Err line
IsFault Memory said = Unit {0}

-- the same of a result
abbrev pub FaultIs : {T : Type 0} → Result T VerifyFault → Result JournalRead ℕ → Type 0
FaultIs (Ok value) said = Unit {0}
FaultIs (Err fault) said = IsFault fault said
