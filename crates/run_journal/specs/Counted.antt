-- What is counted of a journal.
use Rattle.std.specs.Prelude.{◌≡◌, ℕ, length, sum_by}
use Rattle.std.specs.List.{count_by}
use Rattle.run_journal.specs.declared.entry.Entry.{Entry}
use Rattle.run_journal.specs.declared.entry.Entry.TheVariants.{Prepare}
use Rattle.run_journal.specs.declared.lawful.Lawful.{Lawful}
use Rattle.run_journal.specs.Replay.{JournalValue}

-- whether an entry prepares a pass, as a number
abbrev pub prepares : Entry → ℕ
prepares (Prepare pass position) = 1
prepares _ = 0

-- the passes, the loads and the hits of a journal
pub record CountsOf (j : JournalValue) (counts : Lawful) : Type 0 where
  pub passes : counts.passes ≡ sum_by prepares j.entries
  pub loads : counts.loads ≡ length j.bits
  pub hits : counts.hits ≡ count_by (λ bit. bit) j.bits
