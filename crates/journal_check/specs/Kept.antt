-- What is kept of the entries of a journal text, so that they can be carried out again.
use Rattle.std.specs.Prelude.{◌≡◌, ◌==◌, ℕ, ◌+◌, Bool, false, List, [], ◌∷◌, ◌++◌, length, map, Option, Some}
use Rattle.live_commit.specs.SetupView.{value_of}
use Rattle.damon_control.specs.Live.{CallValue, LiveValue}
use Rattle.damon_control.specs.LiveView.{call_value}
use Rattle.run_journal.specs.declared.entry.Entry.{Entry}
use Rattle.run_journal.specs.declared.entry.Entry.TheVariants.{Call}
use Rattle.journal_check.specs.declared.entries.kept.Kept.{Kept}
use Rattle.journal_check.specs.declared.entries.kept.KeptCall.{KeptCall}
use Rattle.journal_check.specs.declared.entries.kept.Keeping.TheVariants.{Everything}
use Rattle.run_journal.specs.Replay.{IsJournalOf, JournalValue, call_at}

-- the call of an entry, with the index of the entry, if it is a call
abbrev pub call_of : LiveValue → ℕ → Entry → List (ℕ × Option CallValue)
call_of v n (Call controller index answer) = (n, call_at v controller index) ∷ []
call_of v n _ = []

-- the calls of entries, of which the first has this index
abbrev pub calls_from : LiveValue → ℕ → List Entry → List (ℕ × Option CallValue)
calls_from v n [] = []
calls_from v n (e ∷ es) = call_of v n e ++ calls_from v (n + 1) es

-- a call that was kept
abbrev pub kept_call : KeptCall → ℕ × Option CallValue
kept_call k = (k.place, Some (call_value k.call))

-- the seed and the setup of a text, and if all is kept, the results, the calls and the number of its entries so far
pub record IsKept (v : LiveValue) (j : JournalValue) (k : Kept) : Type 0 where
  pub seed : v.seed ≡ k.seed
  pub setup : v.setup ≡ value_of k.setup
  pub entries : k.entries ≡ length j.entries
  pub bits_are : k.keeping ≡ Everything → k.bits ≡ j.bits
  pub calls_are : k.keeping ≡ Everything → map kept_call k.calls.items ≡ calls_from v 0 j.entries

-- one entry more is kept, with these results and these calls
pub record GainsEntry (old new : Kept) (bits : List Bool) (calls : List (ℕ × Option CallValue)) : Type 0 where
  pub keeping : new.keeping ≡ old.keeping
  pub seed : new.seed ≡ old.seed
  pub setup : new.setup ≡ old.setup
  pub entries : new.entries ≡ old.entries + 1
  pub bits_are : old.keeping ≡ Everything → new.bits ≡ old.bits ++ bits
  pub calls_are : old.keeping ≡ Everything → map kept_call new.calls.items ≡ map kept_call old.calls.items ++ calls

-- what is kept is that of a journal of a script
abbrev pub IsOfJournal : Kept → Type 0
IsOfJournal k = (v : LiveValue) × (j : JournalValue) × IsJournalOf v j × IsKept v j k

-- whether the entry with this index is the first of these calls
abbrev pub is_call_at : ℕ → List (ℕ × Option CallValue) → Bool
is_call_at n [] = false
is_call_at n (k ∷ ks) = k.0 == n
