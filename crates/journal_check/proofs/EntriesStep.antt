-- A line among the entries that is the first line of a call.
use Rattle.std.proofs.Common.{◌≡◌, ℕ, ◌&&◌, false, List, [], ap, ◌∙◌}
use Rattle.std.specs.Prelude.{codes, option_map, None}
use Rattle.std.specs.Option.{option_or}
use Rattle.script_lines.specs.Words.{same_word}
use Rattle.damon_control.specs.Live.{LiveValue}
use Rattle.journal_text.specs.EntryLine.{after_call, after_entry, is_idle, said_entry, where_so}
use Rattle.run_journal.specs.Growth.{longer}
use Rattle.journal_text.specs.Place.{InEntries, InReceipts}
use Rattle.run_journal.specs.Replay.{JournalValue, replay}

-- where it is no other entry and not `receipts`
pub at_call : (v : LiveValue) (j : JournalValue) (line : List ℕ) → said_entry (replay v j) (replay v j).state.core.phase line ≡ None → same_word line (codes "receipts") ≡ false
    → after_entry v j line ≡ after_call v j line
at_call v j line none other =
    ap (λ e. option_or (option_map (λ x. InEntries v (longer j x.0 x.1)) e) (option_or (where_so (same_word line (codes "receipts") && is_idle (replay v j).state.core.phase) (InReceipts v j [])) (after_call v j line))) none
    ∙ ap (λ b. option_or (where_so (b && is_idle (replay v j).state.core.phase) (InReceipts v j [])) (after_call v j line)) other
