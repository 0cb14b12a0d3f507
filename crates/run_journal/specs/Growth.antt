-- What one entry more makes of a journal.
use Rattle.std.specs.Prelude.{ℕ, zero, suc, Bool, List, [], ◌∷◌, ◌++◌, slice_index_or}
use Rattle.damon_control.specs.Live.{CallValue, LiveValue}
use Rattle.run_journal.specs.declared.entry.Entry.{Entry}
use Rattle.run_journal.specs.Replay.{JournalValue, Replayed, replay}

-- the replay of a journal, with these results for the next entry
abbrev pub replay_with : LiveValue → JournalValue → List Bool → Replayed
replay_with v j bits = record (replay v j) { bits = bits }

-- a journal with one entry more, which has these results
abbrev pub longer : JournalValue → Entry → List Bool → JournalValue
longer j e bits = record { entries = j.entries ++ e ∷ []; bits = j.bits ++ bits }

-- the calls so far of a controller
abbrev pub calls_so_far : LiveValue → ℕ → List CallValue
calls_so_far v controller = slice_index_or v.controllers controller []

-- lists of which the one with this number has one more item
abbrev pub added_to : {A : Type 0} → ℕ → A → List (List A) → List (List A)
added_to n x [] = []
added_to zero x (xs ∷ lists) = (xs ++ x ∷ []) ∷ lists
added_to (suc n) x (xs ∷ lists) = xs ∷ added_to n x lists

-- one more call of a controller
abbrev pub with_call_of : LiveValue → ℕ → CallValue → LiveValue
with_call_of v controller call = record v { controllers = added_to controller call v.controllers }
