-- The text of a journal that is left from a place on.
use Rattle.std.specs.Prelude.{◌≡◌, ℕ, ◌+◌, ◌-◌, Bool, true, false, ◌<◌, List, [], ◌∷◌, ◌++◌, codes, drop, length, sum, take}
use Rattle.std.specs.List.{AllByRecursion}
use Rattle.damon_types.specs.Space.{pages_of}
use Rattle.script_lines.specs.Lines.{lines_text}
use Rattle.damon_core.specs.Stands.{Stands}
use Rattle.damon_control.specs.Live.{LiveValue}
use Rattle.damon_control.specs.LiveView.{live_said}
use Rattle.run_journal.specs.declared.entry.Receipt.{Receipt}
use Rattle.run_journal.specs.declared.results.Results.{Results}
use Rattle.journal_text.specs.declared.text_parts.Part.{Part}
use Rattle.journal_text.specs.declared.text_parts.Part.TheVariants.{Head, Entries, Receipts, Last, End}
use Rattle.journal_text.specs.declared.text_parts.Recorded.{Recorded}
use Rattle.run_journal.specs.Lawful.{all_of, receipts_said}
use Rattle.run_journal.specs.Replay.{JournalValue, Replayed, begun, check_sizes, check_sizes_from, replay, replay_from}
use Rattle.run_journal.specs.Results.{loads_in}
use Rattle.journal_text.specs.Text.{entries_lines, last_text, seen_lines, settled_lines}

-- the replay before the entry with this index
abbrev pub replay_to : LiveValue → JournalValue → ℕ → Replayed
replay_to v j next = replay_from v (begun v j.bits) (take next j.entries)

-- the lines of the entries from an index on
abbrev pub entries_left : LiveValue → JournalValue → ℕ → List (List ℕ)
entries_left v j next = entries_lines v (replay_to v j next) (drop next j.entries)

-- the receipts of workers without the first n of the first of them
abbrev pub without_first : ℕ → List (List Receipt) → List (List Receipt)
without_first n [] = []
without_first n (own ∷ all) = drop n own ∷ all

-- the lines from a place on, up to `settled`
abbrev pub lines_from : LiveValue → JournalValue → List (List Receipt) → Part → List (List ℕ)
lines_from v j all Head = settled_lines v j all
lines_from v j all (Entries next results) = entries_left v j next ++ codes "receipts" ∷ (seen_lines v.setup.space 0 all ++ codes "settled" ∷ [])
lines_from v j all (Receipts worker next) = seen_lines v.setup.space worker (without_first next (drop worker all)) ++ codes "settled" ∷ []
lines_from v j all Last = []
lines_from v j all End = []

-- whether the text ends at a place
abbrev pub is_end : Part → Bool
is_end End = true
is_end _ = false

-- the text that is left of the journal of a recorded run
abbrev pub text_left : Recorded → Part → List ℕ
text_left run End = []
text_left run part = lines_text (lines_from (live_said run.script.now) run.journal.now.value (receipts_said run.receipts.now) part) ++ last_text (replay (live_said run.script.now) run.journal.now.value).state

-- What the text of a recorded run needs: its monitor stands where the journal leads to, and its receipts are of pages of the space.
pub record IsRecorded (run : Recorded) : Type 0 where
  pub sizes : run.journal.now.checked ≡ check_sizes (live_said run.script.now) run.journal.now.value
  pub stands : Stands run.monitor.now (replay (live_said run.script.now) run.journal.now.value).state
  pub pages : AllByRecursion (λ r. r.page < pages_of run.script.now.setup.space) (all_of (receipts_said run.receipts.now))

-- the results that stand beside a place are those of the entries from this index on
pub record AreResultsOf (v : LiveValue) (j : JournalValue) (next : ℕ) (results : Results) : Type 0 where
  pub sizes : results.sizes.now ≡ check_sizes_from v (replay_to v j next) (drop next j.entries)
  pub bits : loads_in results.loads ≡ (replay_to v j next).bits
  pub all : sum results.sizes.now ≡ length (loads_in results.loads)

-- what is kept at a place fits the run
abbrev pub IsPlaceOf : Recorded → Part → Type 0
IsPlaceOf run (Entries next results) = AreResultsOf (live_said run.script.now) run.journal.now.value next results
IsPlaceOf run _ = Unit {0}

-- how many parts of a text are left, where this many workers have receipts
abbrev pub parts_left : ℕ → Part → ℕ
parts_left workers Head = workers + 4
parts_left workers (Entries next results) = workers + 3
parts_left workers (Receipts worker next) = workers - worker + 2
parts_left workers Last = 1
parts_left workers End = 0

-- how far a text of `size` bytes is from its limit or from the last part
abbrev pub steps_left : Recorded → ℕ → ℕ → Part → ℕ
steps_left run limit size part = limit - size + parts_left (length run.receipts.now.list) part
