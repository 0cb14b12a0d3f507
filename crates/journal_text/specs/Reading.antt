-- A journal text that is read line by line, or its first rejected line.
use Rattle.std.specs.Prelude.{ℕ, ◌+◌, List, [], ◌∷◌, Option, Some, None, Result, Ok, Err, if◌then◌else◌}
use Rattle.std.specs.Option.{ok_or}
use Rattle.line_text.specs.Parts.{parts}
use Rattle.script_lines.specs.Refusal.{◌>>=◌}
use Rattle.script_lines.specs.Words.{same_word}
use Rattle.script_lines.specs.declared.kind.ScriptKind.{ScriptKind}
use Rattle.damon_control.specs.declared.grammar.Grammar.TheVariants.{OfJournal}
use Rattle.damon_control.specs.Script.{AtHeader, Place, place_after}
use Rattle.journal_text.specs.EntryLine.{after_answer, after_block, after_entry, where_so}
use Rattle.journal_text.specs.Place.{AtAnswer, AtLast, InBlock, InEntries, InHead, InReceipts, JournalPlace, JournalRead, after_head}
use Rattle.journal_text.specs.SeenLine.{after_receipt}

-- the place after a line of the head
abbrev pub after_head_line : Result (Place OfJournal) ScriptKind → Option JournalPlace
after_head_line (Ok p) = Some (after_head p)
after_head_line (Err kind) = None

-- the place after one of the last lines, which are wanted as they stand
abbrev pub after_last : JournalRead → List (List ℕ) → List ℕ → Option JournalPlace
after_last said (w ∷ next ∷ more) line = where_so (same_word line w) (AtLast said (next ∷ more))
after_last said _ line = None

-- the place after a line, if it may stand there
abbrev pub line_after : JournalPlace → List ℕ → Option JournalPlace
line_after (InHead p) line = after_head_line (place_after OfJournal p line)
line_after (InEntries v j) line = after_entry v j line
line_after (InBlock v j controller commit) line = after_block v j controller commit line
line_after (AtAnswer v j controller call) line = after_answer v j controller call line
line_after (InReceipts v j all) line = after_receipt v j all line
line_after (AtLast said wanted) line = after_last said wanted line

-- what is said at the end of a text, where bytes that no LF ends stand in place of line n
abbrev pub said_at_end : ℕ → JournalPlace → List ℕ → Result JournalRead ℕ
said_at_end n (AtLast said (w ∷ [])) bytes = if same_word bytes w then Ok said else Err n
said_at_end n _ bytes = Err n

-- what lines say from a place on, of which the first is line n; the last item is the bytes after the last LF
abbrev pub said_from : ℕ → JournalPlace → List (List ℕ) → Result JournalRead ℕ
said_from n place [] = said_at_end n place []
said_from n place (bytes ∷ []) = said_at_end n place bytes
said_from n place (line ∷ next ∷ more) = ok_or (line_after place line) n >>= λ reached. said_from (n + 1) reached (next ∷ more)

-- what a journal text says, or its first rejected line
abbrev pub read_journal : List ℕ → Result JournalRead ℕ
read_journal text = said_from 1 (InHead AtHeader) (parts 10 text)
