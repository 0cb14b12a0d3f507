-- The numbers of what a text says are within their types.
use Rattle.std.proofs.Common.{◌≡◌, ℕ, zero, suc, ◌+◌, ◌≤◌, Bool, List, [], ◌∷◌, ◌++◌, length, refl, sym, ap, subst, codes, length-append, arith, take}
use Rattle.std.specs.Prelude.{slice_index_or, sum_by}
use Rattle.std.specs.List.{AllByRecursion}
use Rattle.std.proofs.lemmas.List.Sums.{sum_by-cons}
use Rattle.damon_core.specs.InPhase.{IsInPhase}
use Rattle.damon_core.specs.Reached.{CanOpen, Reached}
use Rattle.damon_core.specs.State.{State}
use Rattle.damon_control.specs.Live.{LiveValue}
use Rattle.damon_control.specs.JournalHead.{head_lines}
use Rattle.script_lines.specs.Lines.{lines_text}
use Rattle.run_journal.specs.declared.entry.Entry.{Entry}
use Rattle.run_journal.specs.declared.entry.Entry.TheVariants.{Prepare, Check, Void, Aggregate, Call}
use Rattle.run_journal.specs.declared.entry.Receipt.{Receipt}
use Rattle.run_journal.specs.Counted.{prepares}
use Rattle.run_journal.specs.Lawful.{IsLawful}
use Rattle.run_journal.specs.Limits.{CanCall, NumbersFit}
use Rattle.run_journal.specs.Replay.{EntriesFit, EntryFits, IsJournalOf, JournalValue, Replayed, begun, bits_taken, carried, replay}
use Rattle.journal_text.specs.Rules.{CallsInTurn, InTurn, one_more}
use Rattle.journal_text.specs.Spelled.{answered_lines, call_lines, spelled_answer}
use Rattle.journal_text.specs.Text.{entries_lines, entry_lines, journal_lines, journal_text, last_text, seen_lines, settled_lines}
use Rattle.run_journal.proofs.Lemmas.{CallPlaceFits, fit_numbers}

-- those of calls that are numbered in turn, of which each controller has at most this many before them
index_few : (next : List ℕ) (c n : ℕ) → AllByRecursion (λ k. k ≤ n) next → slice_index_or next c 0 ≤ n
index_few [] c n few = omega arith
index_few (k ∷ next) zero n few = few.0
index_few (k ∷ next) (suc c) n few = index_few next c n few.1

length-one_more : (c : ℕ) (next : List ℕ) → length (one_more c next) ≡ length next
length-one_more c [] = refl
length-one_more zero (k ∷ next) = refl
length-one_more (suc c) (k ∷ next) = ap suc (length-one_more c next)

few_later : (n : ℕ) (next : List ℕ) → AllByRecursion (λ k. k ≤ n) next → AllByRecursion (λ k. k ≤ n + 1) next
few_later n [] few = tt
few_later n (k ∷ next) few = (omega (arith, few.0), few_later n next few.1)

few_more : (c n : ℕ) (next : List ℕ) → AllByRecursion (λ k. k ≤ n) next → AllByRecursion (λ k. k ≤ n + 1) (one_more c next)
few_more c n [] few = tt
few_more zero n (k ∷ next) few = (omega (arith, few.0), few_later n next few.1)
few_more (suc c) n (k ∷ next) few = (omega (arith, few.0), few_more c n next few.1)

turn_places : (next : List ℕ) (n : ℕ) (es : List Entry) → length next ≤ 4 → AllByRecursion (λ k. k ≤ n) next → InTurn next es → n + length es ≤ 16777216 → AllByRecursion CallPlaceFits es
turn_places next n [] four few turn most = tt
turn_places next n (Prepare pass position ∷ es) four few turn most = (tt, turn_places next n es four few turn (omega (arith, most)))
turn_places next n (Check pass ∷ es) four few turn most = (tt, turn_places next n es four few turn (omega (arith, most)))
turn_places next n (Void pass ∷ es) four few turn most = (tt, turn_places next n es four few turn (omega (arith, most)))
turn_places next n (Aggregate tick position ∷ es) four few turn most = (tt, turn_places next n es four few turn (omega (arith, most)))
turn_places next n (Call c i answer ∷ es) four few turn most = (
  (omega (arith, turn.0, four), omega (arith, turn.1, index_few next c n few, most)),
  turn_places (one_more c next) (n + 1) es (omega (arith, length-one_more c next, four)) (few_more c n next few) turn.2 (omega (arith, most)),
)

-- there are no more entries than lines, and no more lines than bytes
entry_some : (v : LiveValue) (r : Replayed) (e : Entry) (bits : List Bool) → EntryFits v r e → 1 ≤ length (entry_lines v bits e)
entry_some v r (Prepare pass position) bits fits = omega arith
entry_some v r (Check pass) bits fits = omega arith
entry_some v r (Void pass) bits fits = omega arith
entry_some v r (Aggregate tick position) bits fits = omega arith
entry_some v r (Call controller index answer) bits fits =
    let call = fits.1.0 in
    subst (λ o. 1 ≤ length (answered_lines controller index answer o)) (sym fits.1.1) (omega (arith, length-append (call_lines controller index call) (spelled_answer answer ∷ [])))

entries_short : (v : LiveValue) (es : List Entry) (r : Replayed) → EntriesFit v r es → length es ≤ length (entries_lines v r es)
entries_short v [] r fit = omega arith
entries_short v (e ∷ es) r fit =
    let bits = take (bits_taken r.state.core e) r.bits in
    omega (arith, entry_some v r e bits fit.0, entries_short v es (carried v r e) fit.1, length-append (entry_lines v bits e) (entries_lines v (carried v r e) es))

lines_short : (lines : List (List ℕ)) → length lines ≤ length (lines_text lines)
lines_short [] = omega arith
lines_short (line ∷ lines) = omega (arith, lines_short lines, length-append line (10 ∷ lines_text lines))

prepares_short : (es : List Entry) → sum_by prepares es ≤ length es
prepares_short [] = omega arith
prepares_short (e ∷ es) = omega (arith, sum_by-cons prepares e es, one_prepares e, prepares_short es)
  where
    one_prepares : (x : Entry) → prepares x ≤ 1
    one_prepares (Prepare pass position) = omega arith
    one_prepares (Check pass) = omega arith
    one_prepares (Void pass) = omega arith
    one_prepares (Aggregate tick position) = omega arith
    one_prepares (Call controller index answer) = omega arith

text_short : (v : LiveValue) (j : JournalValue) (all : List (List Receipt)) → IsJournalOf v j → length j.entries ≤ length (journal_text v j all)
text_short v j all is =
    let head = head_lines v.seed v.setup in
    let entries = journal_lines v j in
    let rest = codes "receipts" ∷ (seen_lines v.setup.space 0 all ++ codes "settled" ∷ []) in
    omega (arith, entries_short v j.entries (begun v j.bits) is.fit, length-append entries rest, length-append head (entries ++ rest), lines_short (settled_lines v j all), length-append (lines_text (settled_lines v j all)) (last_text (replay v j).state))

-- the numbers of what a text says are within their types
pub read_fit : ((s : State) → Reached s → IsInPhase s) → (text : List ℕ) (v : LiveValue) (j : JournalValue) (all : List (List Receipt)) → CanOpen v.setup → CanCall v → CallsInTurn j.entries → IsLawful v j all
    → text ≡ journal_text v j all → length text ≤ 16777216 → NumbersFit j all
read_fit in_phase text v j all can call turn lawful spelled few =
    let count : length text ≡ length (journal_text v j all) = ap length spelled in
    let short : length j.entries ≤ 16777216 = omega (arith, text_short v j all lawful.journal, count, few) in
    fit_numbers in_phase v j all can call (turn_places (0 ∷ 0 ∷ 0 ∷ 0 ∷ []) 0 j.entries (omega arith) (omega arith, (omega arith, (omega arith, (omega arith, tt)))) turn (omega (arith, short))) lawful (omega (arith, prepares_short j.entries, short))
