-- The text of a journal.
use Rattle.std.specs.Prelude.{ℕ, ◌+◌, Bool, List, [], ◌∷◌, ◌++◌, codes, map, take}
use Rattle.damon_types.specs.declared.space.Target.{Target}
use Rattle.script_lines.specs.Lines.{lines_text}
use Rattle.damon_core.specs.State.{State}
use Rattle.damon_control.specs.JournalHead.{head_lines}
use Rattle.damon_control.specs.Live.{LiveValue}
use Rattle.snapshot_print.specs.Lines.{as_text}
use Rattle.snapshot_print.specs.Printed.{printed_state}
use Rattle.run_journal.specs.declared.entry.Entry.{Entry}
use Rattle.run_journal.specs.declared.entry.Entry.TheVariants.{Prepare, Check, Void, Aggregate, Call}
use Rattle.run_journal.specs.declared.entry.Receipt.{Receipt}
use Rattle.run_journal.specs.Replay.{JournalValue, Replayed, begun, bits_taken, call_at, carried, replay}
use Rattle.journal_text.specs.Spelled.{answered_lines, spelled_aggregate, spelled_check, spelled_prepare, spelled_seen, spelled_void}

-- the lines of an entry, with the results of its loads
abbrev pub entry_lines : LiveValue → List Bool → Entry → List (List ℕ)
entry_lines v bits (Prepare pass position) = spelled_prepare pass position ∷ []
entry_lines v bits (Check pass) = spelled_check pass bits ∷ []
entry_lines v bits (Void pass) = spelled_void pass ∷ []
entry_lines v bits (Aggregate tick position) = spelled_aggregate tick position ∷ []
entry_lines v bits (Call controller index answer) = answered_lines controller index answer (call_at v controller index)

-- the lines of entries
abbrev pub entries_lines : LiveValue → Replayed → List Entry → List (List ℕ)
entries_lines v r [] = []
entries_lines v r (e ∷ es) = entry_lines v (take (bits_taken r.state.core e) r.bits) e ++ entries_lines v (carried v r e) es

-- the lines of the receipts of workers, the first of which has this number
abbrev pub seen_lines : List Target → ℕ → List (List Receipt) → List (List ℕ)
seen_lines space worker [] = []
seen_lines space worker (rs ∷ all) = map (spelled_seen space worker) rs ++ seen_lines space (worker + 1) all

-- the lines of the entries of a journal
abbrev pub journal_lines : LiveValue → JournalValue → List (List ℕ)
journal_lines v j = entries_lines v (begun v j.bits) j.entries

-- the lines up to `settled`
abbrev pub settled_lines : LiveValue → JournalValue → List (List Receipt) → List (List ℕ)
settled_lines v j all =
    head_lines v.seed v.setup ++ (journal_lines v j ++ codes "receipts" ∷ (seen_lines v.setup.space 0 all ++ codes "settled" ∷ []))

-- what is printed of the last state: its show lines and the end line
abbrev pub last_text : State → List ℕ
last_text s = as_text.show (printed_state s) ++ as_text.end (printed_state s)

-- the text of a journal with receipts
abbrev pub journal_text : LiveValue → JournalValue → List (List Receipt) → List ℕ
journal_text v j all = lines_text (settled_lines v j all) ++ last_text (replay v j).state
