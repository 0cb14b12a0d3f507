-- The lines of a journal with one entry more, whose script may have got more calls.
use Rattle.std.proofs.Common.{◌≡◌, ℕ, Bool, List, [], ◌∷◌, ◌++◌, take, refl, sym, ap, ◌∙◌, append_assoc, append-nil}
use Rattle.std.proofs.lemmas.List.{take-append-le}
use Rattle.damon_core.specs.State.{row_count}
use Rattle.damon_control.specs.Live.{CallValue, LiveValue}
use Rattle.run_journal.specs.declared.entry.Entry.{Entry}
use Rattle.run_journal.specs.declared.entry.Entry.TheVariants.{Prepare, Check, Void, Aggregate, Call}
use Rattle.run_journal.specs.Growth.{longer}
use Rattle.run_journal.specs.Replay.{EntriesFit, EntryFits, IsJournalOf, JournalValue, Replayed, begun, bits_taken, call_at, carried, replay, replay_from}
use Rattle.journal_text.specs.Spelled.{answered_lines}
use Rattle.journal_text.specs.Text.{entries_lines, entry_lines, journal_lines}
use Rattle.run_journal.proofs.Lemmas.{carried-more, with_more, KeepsCalls, called_in, entry-kept, with_calls}

-- the lines of an entry and of those after it
abbrev lines_with : LiveValue → Replayed → Entry → List (List ℕ) → List (List ℕ)
lines_with v r e more = entry_lines v (take (bits_taken r.state.core e) r.bits) e ++ more

-- an entry has the same lines among more calls, of which it finds its own, and with more results behind
entry_lines-more : (v : LiveValue) (calls : List (List CallValue)) → KeepsCalls v calls → (more : List Bool) (r : Replayed) (e : Entry) → EntryFits v r e
    → entry_lines (with_calls v calls) (take (bits_taken r.state.core e) (r.bits ++ more)) e ≡ entry_lines v (take (bits_taken r.state.core e) r.bits) e
entry_lines-more v calls keeps more r (Prepare pass pos) fits = refl
entry_lines-more v calls keeps more r (Check pass) fits = ap (λ bits. entry_lines v bits (Check pass)) (take-append-le (row_count r.state.core) r.bits more fits.2)
entry_lines-more v calls keeps more r (Void pass) fits = refl
entry_lines-more v calls keeps more r (Aggregate tick pos) fits = refl
entry_lines-more v calls keeps more r (Call c i answer) fits =
    let same : called_in calls c i ≡ call_at v c i = keeps c i fits.1.0 fits.1.1 ∙ sym fits.1.1 in
    ap (answered_lines c i answer) same

-- and so have all entries, with those of one entry more behind
entries_lines-more : (v : LiveValue) (calls : List (List CallValue)) → KeepsCalls v calls → (more : List Bool) (r : Replayed) (es : List Entry) (e : Entry) → EntriesFit v r es
    → entries_lines (with_calls v calls) (with_more more r) (es ++ e ∷ []) ≡ entries_lines v r es ++ lines_with (with_calls v calls) (with_more more (replay_from v r es)) e []
entries_lines-more v calls keeps more r [] e fit = refl
entries_lines-more v calls keeps more r (x ∷ es) e fit =
    let w = with_calls v calls in
    let kept = entry-kept v calls keeps r x fit.0 in
    let next : carried w (with_more more r) x ≡ with_more more (carried v r x) =
    carried-more w more r x kept.fits ∙ ap (with_more more) kept.next
    in
    (λ i. entry_lines-more v calls keeps more r x fit.0 i ++ entries_lines w (next i) (es ++ e ∷ []))
    ∙ ap (lines_with v r x) (entries_lines-more v calls keeps more (carried v r x) es e fit.1)
    ∙ sym (append_assoc (entry_lines v (take (bits_taken r.state.core x) r.bits) x) (entries_lines v (carried v r x) es) (lines_with w (with_more more (replay_from v (carried v r x) es)) e []))

-- The lines of the longer journal, whose script may have more calls, are those before, and then those of the entry.
pub lengthened-lines : (v : LiveValue) (calls : List (List CallValue)) (j : JournalValue) (e : Entry) (bits : List Bool) → KeepsCalls v calls → IsJournalOf v j
    → journal_lines (with_calls v calls) (longer j e bits) ≡ journal_lines v j ++ entry_lines (with_calls v calls) (take (bits_taken (replay v j).state.core e) bits) e
lengthened-lines v calls j e bits keeps is =
    let w = with_calls v calls in
    entries_lines-more v calls keeps bits (begun v j.bits) j.entries e is.fit
    ∙ ap (λ l. journal_lines v j ++ (entry_lines w (take (bits_taken (replay v j).state.core e) (l ++ bits)) e ++ [])) is.none_left
    ∙ ap (λ l. journal_lines v j ++ l) (append-nil (entry_lines w (take (bits_taken (replay v j).state.core e) bits) e))
