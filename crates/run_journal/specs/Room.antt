-- A journal as its calls see it: what it says, and how much fits.
use Rattle.std.specs.Prelude.{◌≡◌, ℕ, ◌≤◌, ◌<◌, ◌^◌, Bool, List, [], ◌∷◌, ◌++◌, length, sum}
use Rattle.run_journal.specs.declared.entry.Entry.{Entry}
use Rattle.run_journal.specs.Replay.{JournalValue}

-- what a journal says, how many results each of its checks has, and how many entries and results fit in all
pub record JournalView : Type 0 where
  pub value : JournalValue
  pub checked : List ℕ
  pub room : ℕ
  pub bit_room : ℕ

-- a journal that says nothing
abbrev pub nothing_said : JournalValue
nothing_said = record { entries = []; bits = [] }

-- a journal without entries, with this room
abbrev pub empty_journal : ℕ → ℕ → JournalView
empty_journal room bit_room = record { value = nothing_said; checked = []; room = room; bit_room = bit_room }

-- a journal with one more entry
abbrev pub with_entry : Entry → JournalView → JournalView
with_entry e j = record j { value = record j.value { entries = j.value.entries ++ e ∷ [] } }

-- a journal with the results of one more check
abbrev pub with_results : List Bool → JournalView → JournalView
with_results bits j = record j {
  value = record j.value { bits = j.value.bits ++ bits };
  checked = j.checked ++ length bits ∷ [];
}

-- what a journal keeps at all times: it is within its room, the memory for which is taken, and its results are those of its checks
pub record IsJournal (entries : List Entry) (loads : List Bool) (loaded : ℕ) (checked : List ℕ) (room entries_reserved checked_reserved : ℕ) : Type 0 where
  pub few : length entries ≤ room
  pub few_loads : loaded ≤ length loads
  pub small_loads : length loads < 2 ^ 32
  pub few_checks : length checked ≤ length entries
  pub all_loads : sum checked ≡ loaded
  pub reserved : room ≤ entries_reserved
  pub reserved_checks : room ≤ checked_reserved
  pub small : room < 2 ^ 32
