-- What the monitor of a live run keeps with its journal and its seat.
use Rattle.std.specs.Prelude.{◌≡◌, ℕ, ◌+◌, ◌-◌, ◌*◌, ◌≤◌, ◌^◌, List, [], ◌∷◌, ◌++◌, length, sum_by}
use Rattle.std.specs.List.{AllByRecursion}
use Rattle.atomic_table.specs.Seated.{TableId}
use Rattle.damon_types.specs.Space.{pages_of}
use Rattle.live_commit.specs.declared.phase.Phase.{Phase}
use Rattle.live_commit.specs.declared.phase.Phase.TheVariants.{Armed, Void, Due}
use Rattle.page_words.specs.Clears.{last_clear_of, last_clear_pass}
use Rattle.page_words.specs.Seats.{MonitorSeatView}
use Rattle.damon_control.specs.declared.live.LiveScript.{LiveScript}
use Rattle.damon_control.specs.Live.{LiveValue, count_all}
use Rattle.damon_control.specs.LiveText.{KeepsLimits}
use Rattle.damon_control.specs.LiveView.{live_said}
use Rattle.run_journal.specs.Phases.{passes_open}
use Rattle.run_journal.specs.declared.entry.Entry.{Entry}
use Rattle.run_journal.specs.declared.entry.Entry.TheVariants.{Aggregate, Call, Prepare}
use Rattle.run_journal.specs.Counted.{prepares}
use Rattle.run_journal.specs.Replay.{JournalValue, Replayed, check_sizes}
use Rattle.run_journal.specs.Replaying.{IsReplayOf, ReplayingView}
use Rattle.run_journal.specs.Room.{JournalView}
use Rattle.run_journal.specs.Steps.{steps}

-- how many entries it takes at most until the phase is Idle
abbrev pub entries_owed : Phase → ℕ
entries_owed Armed = 2
entries_owed Void = 2
entries_owed Due = 1
entries_owed _ = 0

-- how many random words it takes at most until then
abbrev pub words_owed : Phase → ℕ
words_owed Armed = 2 ^ 33
words_owed Void = 2 ^ 33
words_owed Due = 2 ^ 33
words_owed _ = 0

-- The monitor has carried out the journal and no more; the seat has made its steps and no others; the picks of a pass that is armed
-- were cleared in it last; and the sizes of the checks are those of the replay.
pub record IsRun (v : LiveValue) (table : TableId) (r : ReplayingView) (seat : MonitorSeatView) (j : JournalValue) (checked : List ℕ) : Type 0 where
  pub replays : IsReplayOf v j r
  pub sizes : checked ≡ check_sizes v j
  pub place : seat.table ≡ table
  pub pages : pages_of r.monitor.core.space ≡ table.words
  pub steps_are : seat.entries ≡ steps v j
  pub cleared : r.monitor.core.phase ≡ Armed → AllByRecursion (λ p. last_clear_of p seat.entries ≡ r.monitor.core.ticks + 1) r.monitor.core.picks
  pub last : last_clear_pass seat.entries ≤ r.monitor.core.ticks + 1

-- a call among the entries
abbrev pub call_in : Entry → ℕ
call_in (Call controller index answer) = 1
call_in _ = 0

-- the passes that were prepared: the number of Prepare entries
abbrev pub passes_made : JournalValue → ℕ
passes_made j = sum_by prepares j.entries

-- how many calls of the script are not among the entries
abbrev pub calls_left : LiveValue → List Entry → ℕ
calls_left v es = count_all v.controllers - sum_by call_in es

-- The passes and the room that are left: three entries and `cap` results for each pass that is not begun, and what the pass
-- that is begun still takes. There is room for the results of a pass.
pub record HasRoom (v : LiveValue) (r : ReplayingView) (j : JournalView) (passes places : ℕ) : Type 0 where
  pub made : passes_made j.value ≡ passes
  pub passes_are : r.monitor.core.ticks + passes_open r.monitor.core.phase ≡ passes
  pub most : passes ≤ v.passes
  pub entries : length j.value.entries + (3 * (v.passes - passes) + entries_owed r.monitor.core.phase) + calls_left v j.value.entries ≤ j.room
  pub results : length j.value.bits + v.setup.cap * (v.passes - passes + passes_open r.monitor.core.phase) ≤ j.bit_room
  pub drawn : r.drawn + words_owed r.monitor.core.phase ≤ 2 ^ 34 * passes
  pub hits : v.setup.cap ≤ places

-- all that a machine keeps
pub record IsMachine (v : LiveValue) (table : TableId) (seats : ℕ) (script : LiveScript) (r : ReplayingView) (seat : MonitorSeatView) (j : JournalView) (passes places : ℕ) : Type 0 where
  pub said : live_said script ≡ v
  pub limits : KeepsLimits v
  pub pages : table.words ≡ pages_of v.setup.space
  pub out : seat.out ≡ seats
  pub run : IsRun v table r seat j.value j.checked
  pub room : HasRoom v r j passes places

-- a journal with one more entry
abbrev pub with_one : Entry → JournalValue → JournalValue
with_one e j = record j { entries = j.entries ++ e ∷ [] }

-- the entry that prepares a pass after this replay
abbrev pub prepare_after : Replayed → Entry
prepare_after r = Prepare (r.state.core.ticks + 1) r.drawn

-- the entry of an aggregation after this replay
abbrev pub aggregate_after : Replayed → Entry
aggregate_after r = Aggregate r.state.core.ticks r.drawn
