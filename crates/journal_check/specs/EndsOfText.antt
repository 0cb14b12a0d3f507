-- The head of a journal text, and the lines after it.
use Rattle.std.specs.Prelude.{◌≡◌, ℕ, ◌+◌, Bool, true, false, List, [], ◌∷◌, ◌++◌, codes, length, Result, Ok, Err}
use Rattle.std.specs.List.{AllByRecursion}
use Rattle.script_lines.specs.Words.{same_word}
use Rattle.damon_control.specs.declared.fault.ReadFail.{ReadFail}
use Rattle.damon_control.specs.declared.fault.ReadFail.TheVariants.{Script, Memory as NoMemory}
use Rattle.damon_control.specs.declared.fault.ScriptFault.{ScriptFault}
use Rattle.damon_control.specs.Script.{HeadValue}
use Rattle.journal_check.specs.declared.journal_lines.JournalLines.{JournalLines}
use Rattle.run_journal.specs.declared.lawful.VerifyFault.{VerifyFault}
use Rattle.run_journal.specs.declared.lawful.VerifyFault.TheVariants.{Unlawful, Memory}
use Rattle.journal_check.specs.LinesLeft.{lines_left, said_left}
use Rattle.journal_text.specs.Place.{InEntries, JournalRead, uncalled}
use Rattle.run_journal.specs.Room.{nothing_said}

-- a line other than `begin`
abbrev pub IsOther : List ℕ → Type 0
IsOther line = same_word line (codes "begin") ≡ false

-- these lines were taken, and none of them is `begin`
pub record AreTaken (front : List (List ℕ)) (old new : JournalLines) : Type 0 where
  pub left : lines_left old ≡ front ++ lines_left new
  pub number : new.taken ≡ old.taken + length front
  pub others : AllByRecursion IsOther front

-- these lines and then the first `begin` were taken
pub record AreTakenWithBegin (front : List (List ℕ)) (old new : JournalLines) : Type 0 where
  pub left : lines_left old ≡ front ++ codes "begin" ∷ lines_left new
  pub number : new.taken ≡ old.taken + length front + 1
  pub others : AllByRecursion IsOther front

-- these are all lines that are left, and none of them is `begin`
pub record AreAllOthers (front : List (List ℕ)) (old : JournalLines) : Type 0 where
  pub last : List ℕ
  pub left : lines_left old ≡ front ++ last ∷ []
  pub others : AllByRecursion IsOther front

-- the lines of a head were skipped, with the first `begin`; or no line is `begin`
abbrev pub HeadIsSkipped : Bool → JournalLines → JournalLines → Type 0
HeadIsSkipped true old new = (front : List (List ℕ)) × AreTakenWithBegin front old new
HeadIsSkipped false old new = (front : List (List ℕ)) × AreAllOthers front old

-- what the reading of a head tells of the whole text: where the head is read, the text says what is said after it; else the first
-- rejected line of the head is that of the text
abbrev pub Tells : Result HeadValue ScriptFault → (HeadValue → Result JournalRead ℕ) → Result JournalRead ℕ → Type 0
Tells (Ok head) after said = said ≡ after head
Tells (Err fault) after said = said ≡ Err fault.line

-- what is said after a head by the lines that are left
abbrev pub said_after_head : JournalLines → HeadValue → Result JournalRead ℕ
said_after_head lines head = said_left (InEntries (uncalled head) nothing_said) lines

-- the fault of a text whose head is not read
abbrev pub head_fault : ReadFail → VerifyFault
head_fault (Script fault) = Unlawful fault.line
head_fault NoMemory = Memory
