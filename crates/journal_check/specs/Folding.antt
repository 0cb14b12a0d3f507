-- What the reader of a journal text keeps of the entries that it has read.
use Rattle.std.specs.Prelude.{◌≡◌, ℕ, ◌+◌, ◌*◌, ◌^◌, ◌≤◌, Bool, true, false, not, List, [], length, map, Some, None, Result}
use Rattle.std.specs.List.{AllByRecursion, count_by}
use Rattle.damon_types.specs.Space.{pages_of}
use Rattle.page_words.specs.declared.view.Entry.{Entry as Step}
use Rattle.damon_control.specs.Live.{LiveValue}
use Rattle.run_journal.specs.declared.entry.Entry.{Entry}
use Rattle.run_journal.specs.declared.entry.Receipt.{Receipt}
use Rattle.journal_check.specs.declared.entries.fold.Fold.{Fold}
use Rattle.journal_check.specs.declared.journal_lines.JournalLines.{JournalLines}
use Rattle.run_journal.specs.Counted.{CountsOf}
use Rattle.journal_check.specs.Ahead.{after_receipts, named_by, receipts_of, seen_ahead}
use Rattle.journal_text.specs.EntryLine.{said_entry}
use Rattle.run_journal.specs.Growth.{longer}
use Rattle.journal_check.specs.Kept.{IsKept}
use Rattle.journal_check.specs.LinesLeft.{lines_left, said_left}
use Rattle.journal_text.specs.Place.{InEntries, InReceipts, JournalRead}
use Rattle.run_journal.specs.Replay.{JournalValue, replay}
use Rattle.run_journal.specs.Replaying.{IsReplayOf}
use Rattle.journal_text.specs.SeenLine.{has_receipt}
use Rattle.run_journal.specs.Steps.{steps}

-- how many hits have no receipt
abbrev pub open_hits : List Receipt → List Step → ℕ
open_hits rs done = count_by (λ s. not (has_receipt rs s)) done

-- The entries so far are carried out; the next call of each controller is known; of the receipts ahead it is known whether they name
-- a pass that cleared their page; and of the hits how many have no receipt.
pub record FoldStands (v : LiveValue) (j : JournalValue) (f : Fold) : Type 0 where
  pub replay : IsReplayOf v j f.replay
  pub version : f.version ≡ v.setup.version
  pub space : f.replay.monitor.core.space ≡ v.setup.space
  pub next : f.next ≡ map (λ calls. length calls) v.controllers
  pub named : f.ahead.named ≡ named_by (steps v j) f.ahead.receipts
  pub open_is : f.unreceived ≡ open_hits (receipts_of f.ahead.receipts) (steps v j)
  pub counts : CountsOf j f.counts
  pub kept : IsKept v j f.kept

-- the numbers that are kept are within this many lines
pub record IsWithin (f : Fold) (lines : ℕ) : Type 0 where
  pub ticks : f.replay.monitor.core.ticks ≤ lines
  pub drawn : f.replay.drawn ≤ 2 ^ 33 * lines
  pub next : AllByRecursion (λ n. n ≤ lines) f.next
  pub passes : f.counts.passes ≤ lines
  pub loads : f.counts.loads ≤ 2 ^ 32 * lines
  pub hits : f.counts.hits ≤ f.counts.loads
  pub open_few : f.unreceived ≤ f.counts.loads
  pub pages : f.ahead.pages ≡ pages_of f.replay.monitor.core.space
  pub entries : f.kept.entries ≤ lines

-- a line more was taken: the numbers are within one more, and the receipts and the space stay
pub record GoesOn (old new : Fold) : Type 0 where
  pub within : (lines : ℕ) → IsWithin old lines → IsWithin new (lines + 1)
  pub receipts : new.ahead.receipts ≡ old.ahead.receipts
  pub space : new.replay.monitor.core.space ≡ old.replay.monitor.core.space
  pub keeping : new.kept.keeping ≡ old.kept.keeping

-- the receipts ahead are those of the lines after the next `receipts`
abbrev pub AreAhead : Fold → JournalLines → Type 0
AreAhead f lines = f.ahead.receipts ≡ seen_ahead f.replay.monitor.core.space (after_receipts (lines_left lines))

-- they are those of the next lines
abbrev pub AreNext : Fold → JournalLines → Type 0
AreNext f lines = f.ahead.receipts ≡ seen_ahead f.replay.monitor.core.space (lines_left lines)

-- a line was taken: where it says an entry that is no call, this is carried out; else nothing has changed
abbrev pub HasTaken : Bool → LiveValue → JournalValue → List ℕ → Fold → Fold → Type 0
HasTaken true v j line old new =
    (x : Entry × List Bool) × (said_entry (replay v j) (replay v j).state.core.phase line ≡ Some x) × FoldStands v (longer j x.0 x.1) new
HasTaken false v j line old new = (said_entry (replay v j) (replay v j).state.core.phase line ≡ None) × (new ≡ old)

-- an entry was read, with all of its lines; or `receipts`, in its place
abbrev pub HasRead : Bool → LiveValue → JournalValue → JournalLines → JournalLines → Fold → Type 0
HasRead true v j old new f =
    (w : LiveValue) × (k : JournalValue) × FoldStands w k f × (said_left (InEntries v j) old ≡ said_left (InEntries w k) new)
HasRead false v j old new f = FoldStands v j f × AreNext f new × (said_left (InEntries v j) old ≡ said_left (InReceipts v j []) new)

-- the entries of a text are carried out up to its receipts, which are those that were read ahead
pub record ReadsReceipts (said : Result JournalRead ℕ) (lines : JournalLines) (f : Fold) : Type 0 where
  pub live : LiveValue
  pub journal : JournalValue
  pub stands : FoldStands live journal f
  pub next : AreNext f lines
  pub goes_on : said ≡ said_left (InReceipts live journal []) lines
