-- The lines of an entry that fits are read back.
use Rattle.std.proofs.Common.{◌≡◌, ℕ, zero, suc, ◌+◌, ◌<◌, ◌&&◌, Bool, true, false, List, [], ◌∷◌, ◌++◌, codes, drop, length, map, take, Some, None, Ok, refl, sym, ap, ◌∙◌, append_assoc, length-take-le, take-take, drop_of_length-le, arith}
use Rattle.std.proofs.lemmas.Bool.Decides.{nat_tests}
use Rattle.std.specs.Prelude.{◌==◌, Option, option_and_then, option_map, slice_index_or, if◌then◌else◌}
use Rattle.std.specs.Bool.{Decides}
use Rattle.std.specs.Option.{option_map_or, option_or}
use Rattle.std.specs.Fmt.{digits}
use Rattle.std.specs.List.{fold}
use Rattle.damon_types.specs.declared.scheme.Scheme.{Scheme}
use Rattle.line_text.proofs.Lemmas.{after_prefix-append}
use Rattle.live_commit.specs.declared.phase.Phase.{Phase}
use Rattle.live_commit.specs.declared.phase.Phase.TheVariants.{Idle, Clearing, Armed, Checking, Void as VoidPhase, Due}
use Rattle.live_commit.specs.Commit.{CommitValue}
use Rattle.script_lines.specs.declared.part.Part.{Part}
use Rattle.script_lines.specs.declared.part.Part.TheVariants.{Attrs as AttrsPart, Range as RangePart, Slot, Metric, Cost}
use Rattle.script_lines.specs.Body.{no_commit, part_line, with_part}
use Rattle.script_lines.specs.Words.{same_word}
use Rattle.script_lines.specs.WrittenLine.{slot_line}
use Rattle.damon_core.specs.Event.{load, observe}
use Rattle.damon_core.specs.Reached.{run}
use Rattle.damon_core.specs.State.{row_count}
use Rattle.damon_control.specs.CommitLines.{AreReadAfter}
use Rattle.damon_control.proofs.Lemmas.{parts_read_back}
use Rattle.damon_control.specs.Live.{CallValue, CommitCall, LiveValue, ShowCall}
use Rattle.damon_control.specs.Written.{part_text, parts_of, written_commit}
use Rattle.damon_control.specs.Spellable.{FitsCall}
use Rattle.run_journal.specs.declared.entry.CallAnswer.{CallAnswer}
use Rattle.run_journal.specs.declared.entry.Entry.{Entry}
use Rattle.run_journal.specs.declared.entry.Entry.TheVariants.{Prepare, Check, Void, Aggregate, Call}
use Rattle.run_journal.specs.Growth.{added_to, calls_so_far, longer, replay_with}
use Rattle.journal_text.specs.EntryLine.{after_block, after_call, after_call_of, after_call_word, after_entry, after_part, bits_of, is_free, is_idle, n_bits_of, said_entry, where_so}
use Rattle.run_journal.specs.Phases.{IsFree}
use Rattle.journal_text.specs.Place.{AtAnswer, InBlock, InEntries, InReceipts, JournalPlace}
use Rattle.run_journal.specs.Replay.{EntryFits, IsJournalOf, JournalValue, Replayed, bits_taken, call_answer, call_at, call_event, carried, replay}
use Rattle.journal_text.specs.Spelled.{answered_lines, bit_digit, call_front, call_lines, check_front, spelled_aggregate, spelled_answer, spelled_check, spelled_prepare, spelled_void}
use Rattle.page_words.specs.PassSteps.{load_steps}
use Rattle.run_journal.specs.Steps.{entry_steps, steps}
use Rattle.journal_text.specs.Text.{entry_lines}
use Rattle.journal_text.proofs.Common.{or_first, same_line}
use Rattle.journal_text.proofs.Leading.{found, leads_by, leads_to}
use Rattle.run_journal.proofs.Lemmas.{added-keeps, added-last, called_in, lengthened}

-- ---- entries that are no calls

-- a line that says an entry leads to the journal with it
entry_leads : (v : LiveValue) (j : JournalValue) (line : List ℕ) (e : Entry) (bs : List Bool) (lines : List (List ℕ)) → said_entry (replay v j) (replay v j).state.core.phase line ≡ Some (e, bs)
    → leads_to (InEntries v j) (line ∷ lines) ≡ leads_to (InEntries v (longer j e bs)) lines
entry_leads v j line e bs lines is =
    leads_by (InEntries v j) (InEntries v (longer j e bs)) line lines
    (or_first (option_map (λ (x : Entry × List Bool). InEntries v (longer j x.0 x.1)) (said_entry (replay v j) (replay v j).state.core.phase line)) _ (InEntries v (longer j e bs))
    (ap (option_map (λ (x : Entry × List Bool). InEntries v (longer j x.0 x.1))) is))

-- a line passes the test of being itself
if_same : {A : Type 0} (line : List ℕ) (x : A) → (if same_word line line then Some x else None) ≡ Some x
if_same line x = ap (λ t. if t then Some x else None) (same_line line)

-- the line of each entry says it, in its phase and with its numbers
pub said_prepare : (r : Replayed) (pass pos : ℕ) → r.state.core.phase ≡ Idle → pass ≡ r.state.core.ticks + 1 → pos ≡ r.drawn → said_entry r r.state.core.phase (spelled_prepare pass pos) ≡ Some (Prepare pass pos, [])
said_prepare r pass pos idle ticks drawn = rw (idle, ticks, drawn) (if_same (spelled_prepare (r.state.core.ticks + 1) r.drawn) (Prepare (r.state.core.ticks + 1) r.drawn, []))

pub said_void : (r : Replayed) (pass : ℕ) → r.state.core.phase ≡ VoidPhase → pass ≡ r.state.core.ticks + 1 → said_entry r r.state.core.phase (spelled_void pass) ≡ Some (Void pass, [])
said_void r pass void ticks = rw (void, ticks) (if_same (spelled_void (r.state.core.ticks + 1)) (Void (r.state.core.ticks + 1), []))

pub said_aggregate : (r : Replayed) (tick pos : ℕ) → r.state.core.phase ≡ Due → tick ≡ r.state.core.ticks → pos ≡ r.drawn → said_entry r r.state.core.phase (spelled_aggregate tick pos) ≡ Some (Aggregate tick pos, [])
said_aggregate r tick pos due ticks drawn = rw (due, ticks, drawn) (if_same (spelled_aggregate r.state.core.ticks r.drawn) (Aggregate r.state.core.ticks r.drawn, []))

-- the digits of results say these
bits_back : (bits : List Bool) → bits_of (map bit_digit bits) ≡ Some bits
bits_back [] = refl
bits_back (true ∷ bits) = ap (λ o. option_and_then (λ bs. Some (true ∷ bs)) o) (bits_back bits)
bits_back (false ∷ bits) = ap (λ o. option_and_then (λ bs. Some (false ∷ bs)) o) (bits_back bits)

-- where as many are wanted
n_bits_back : (n : ℕ) (bits : List Bool) → length bits ≡ n → n_bits_of n (map bit_digit bits) ≡ Some bits
n_bits_back n bits is =
    let same : (length bits == n) ≡ true = grind (arith, nat_tests) in
    ap (λ o. option_and_then (λ (bs : List Bool). if length bs == n then Some bs else None) o) (bits_back bits)
    ∙ ap (λ t. if t then Some bits else None) same

said_check : (r : Replayed) (pass : ℕ) (bits : List Bool) → r.state.core.phase ≡ Armed → pass ≡ r.state.core.ticks + 1 → length bits ≡ row_count r.state.core
    → said_entry r r.state.core.phase (spelled_check pass bits) ≡ Some (Check pass, bits)
said_check r pass bits armed ticks count =
    (λ i. said_entry r (armed i) (spelled_check (ticks i) bits))
    ∙ ap (λ o. option_map (λ (bs : List Bool). (Check (r.state.core.ticks + 1), bs)) (option_and_then (n_bits_of (row_count r.state.core)) o)) (after_prefix-append (check_front (r.state.core.ticks + 1)) (map bit_digit bits))
    ∙ ap (λ o. option_map (λ (bs : List Bool). (Check (r.state.core.ticks + 1), bs)) o) (n_bits_back (row_count r.state.core) bits count)
    ∙ ap (λ n. Some (Check n, bits)) (sym ticks)

-- ---- calls

-- a phase passes the test exactly if it is free
pub free_decides : (ph : Phase) → Decides (is_free ph) (IsFree ph)
free_decides Idle = (λ e. tt, λ free. refl)
free_decides Armed = (λ e. tt, λ free. refl)
free_decides VoidPhase = (λ e. tt, λ free. refl)
free_decides (Clearing k) = (λ e. absurd cc, λ free. absurd free)
free_decides (Checking k) = (λ e. absurd cc, λ free. absurd free)
free_decides Due = (λ e. absurd cc, λ free. absurd free)

-- the first line of a call is no other line
no_entry : (r : Replayed) (ph : Phase) (c i : ℕ) (word : List ℕ) → said_entry r ph (call_front c i ++ word) ≡ None
no_entry r Idle c i word = refl
no_entry r Armed c i word = refl
no_entry r VoidPhase c i word = refl
no_entry r (Clearing k) c i word = refl
no_entry r (Checking k) c i word = refl
no_entry r Due c i word = refl

-- the place after a call's first line
abbrev called_place : LiveValue → JournalValue → ℕ → CallValue → JournalPlace
called_place v j c ShowCall = AtAnswer v j c ShowCall
called_place v j c (CommitCall commit) = InBlock v j c no_commit

-- the last word of the first line of a call
abbrev word_of : CallValue → List ℕ
word_of ShowCall = codes "show"
word_of (CommitCall commit) = codes "commit"

-- its whole line, with the index of the next call
abbrev call_line : LiveValue → ℕ → CallValue → List ℕ
call_line v c call = call_front c (length (calls_so_far v c)) ++ word_of call

-- the first line of a call is read for its own controller
called_back : (v : LiveValue) (j : JournalValue) (c : ℕ) (call : CallValue) → after_call_of v j c (call_line v c call) ≡ Some (called_place v j c call)
called_back v j c ShowCall =
    ap (λ o. option_and_then (after_call_word v j c) o) (after_prefix-append (call_front c (length (calls_so_far v c))) (codes "show"))
called_back v j c (CommitCall commit) =
    ap (λ o. option_and_then (after_call_word v j c) o) (after_prefix-append (call_front c (length (calls_so_far v c))) (codes "commit"))

-- the tries of all controllers
abbrev pub tries_2 : LiveValue → JournalValue → List ℕ → Option JournalPlace
tries_2 v j line = option_or (after_call_of v j 2 line) (after_call_of v j 3 line)

abbrev pub tries_1 : LiveValue → JournalValue → List ℕ → Option JournalPlace
tries_1 v j line = option_or (after_call_of v j 1 line) (tries_2 v j line)

abbrev pub tries : LiveValue → JournalValue → List ℕ → Option JournalPlace
tries v j line = option_or (after_call_of v j 0 line) (tries_1 v j line)

-- and for no controller before it
tried : (v : LiveValue) (j : JournalValue) (c : ℕ) (call : CallValue) → c < 4 → tries v j (call_line v c call) ≡ Some (called_place v j c call)
unfolding digits
tried v j zero call few = or_first (after_call_of v j 0 (call_line v 0 call)) (tries_1 v j (call_line v 0 call)) (called_place v j 0 call) (called_back v j 0 call)
tried v j (suc zero) call few = or_first (after_call_of v j 1 (call_line v 1 call)) (tries_2 v j (call_line v 1 call)) (called_place v j 1 call) (called_back v j 1 call)
tried v j (suc (suc zero)) call few = or_first (after_call_of v j 2 (call_line v 2 call)) (after_call_of v j 3 (call_line v 2 call)) (called_place v j 2 call) (called_back v j 2 call)
tried v j (suc (suc (suc zero))) call few = called_back v j 3 call
tried v j (suc (suc (suc (suc c)))) call few = absurd (omega (arith, few))

-- so it leads to the place after it
pub call_begins : (v : LiveValue) (j : JournalValue) (c : ℕ) (call : CallValue) → c < 4 → IsFree (replay v j).state.core.phase
    → after_entry v j (call_line v c call) ≡ Some (called_place v j c call)
call_begins v j c call few free =
    let line = call_line v c call in
    ap (λ o. option_or (option_map (λ (x : Entry × List Bool). InEntries v (longer j x.0 x.1)) o) (option_or (where_so (same_word line (codes "receipts") && is_idle (replay v j).state.core.phase) (InReceipts v j [])) (after_call v j line)))
    (no_entry (replay v j) (replay v j).state.core.phase c (length (calls_so_far v c)) (word_of call))
    ∙ ap (λ t. if t then tries v j line else None) ((free_decides (replay v j).state.core.phase).1 free)
    ∙ tried v j c call few

-- ---- the block of a commit

-- no line of a slot is `apply`
no_change : (slot : ℕ) (scheme : Option Scheme) → same_word (slot_line slot scheme) (codes "apply") ≡ false
no_change slot None = refl
no_change slot (Some scheme) = refl

-- nor is that of any part
no_apply : (part : Part) → same_word (part_text part) (codes "apply") ≡ false
no_apply (AttrsPart attrs) = refl
no_apply (RangePart range) = refl
no_apply (Slot change) = no_change change.slot change.scheme
no_apply (Metric value) = refl
no_apply (Cost cost) = refl

-- the line of a part leads on within the block
part_leads : (v : LiveValue) (j : JournalValue) (c : ℕ) (commit : CommitValue) (p : Part) → part_line v.setup.version commit (part_text p) ≡ Ok p
    → after_block v j c commit (part_text p) ≡ Some (InBlock v j c (with_part commit p))
part_leads v j c commit p read =
    let line = part_text p in
    ap (λ t. if t then Some (AtAnswer v j c (CommitCall commit)) else after_part v j c commit line (part_line v.setup.version commit line)) (no_apply p)
    ∙ ap (after_part v j c commit line) read
    ∙ found (same_word line line) (InBlock v j c (with_part commit p)) (same_line line)

-- and so do those of several
parts_lead : (v : LiveValue) (j : JournalValue) (c : ℕ) (before : CommitValue) (parts : List Part) (lines : List (List ℕ)) → AreReadAfter v.setup.version before parts
    → leads_to (InBlock v j c before) (map part_text parts ++ lines) ≡ leads_to (InBlock v j c (fold with_part before parts)) lines
parts_lead v j c before [] lines are = refl
parts_lead v j c before (p ∷ parts) lines are =
    leads_by (InBlock v j c before) (InBlock v j c (with_part before p)) (part_text p) (map part_text parts ++ lines) (part_leads v j c before p are.0)
    ∙ parts_lead v j c (with_part before p) parts lines are.1

-- the lines of a block lead to the answer
commit_leads : (v : LiveValue) (j : JournalValue) (c : ℕ) (commit : CommitValue) (lines : List (List ℕ)) → FitsCall v.setup.version (CommitCall commit)
    → leads_to (InBlock v j c no_commit) (written_commit commit ++ codes "apply" ∷ lines) ≡ leads_to (AtAnswer v j c (CommitCall commit)) lines
commit_leads v j c commit lines fits =
    let are = parts_read_back v.setup.version commit fits.0 fits.1 fits.2 in
    parts_lead v j c no_commit (parts_of commit) (codes "apply" ∷ lines) are.each
    ∙ ap (λ d. leads_to (InBlock v j c d) (codes "apply" ∷ lines)) are.made
    ∙ leads_by (InBlock v j c commit) (AtAnswer v j c (CommitCall commit)) (codes "apply") lines refl

-- and so do all lines of a call before it
call_leads : (v : LiveValue) (j : JournalValue) (c : ℕ) (call : CallValue) (lines : List (List ℕ)) → c < 4 → IsFree (replay v j).state.core.phase → FitsCall v.setup.version call
    → leads_to (InEntries v j) (call_lines c (length (calls_so_far v c)) call ++ lines) ≡ leads_to (AtAnswer v j c call) lines
call_leads v j c ShowCall lines few free fits = leads_by (InEntries v j) (AtAnswer v j c ShowCall) (call_line v c ShowCall) lines (call_begins v j c ShowCall few free)
call_leads v j c (CommitCall commit) lines few free fits =
    leads_by (InEntries v j) (InBlock v j c no_commit) (call_line v c (CommitCall commit)) ((written_commit commit ++ codes "apply" ∷ []) ++ lines) (call_begins v j c (CommitCall commit) few free)
    ∙ ap (leads_to (InBlock v j c no_commit)) (append_assoc (written_commit commit) (codes "apply" ∷ []) lines)
    ∙ commit_leads v j c commit lines fits

-- ---- one entry

-- a script with the calls that were read so far
abbrev pub so_far : LiveValue → List (List CallValue) → LiveValue
so_far v done = record v { passes = 0; workers = []; controllers = done }

-- the results that an entry takes, and those that it leaves
abbrev pub taken : LiveValue → List (List CallValue) → JournalValue → List Bool → Entry → List Bool
taken v done j b e = take (bits_taken (replay (so_far v done) j).state.core e) b

-- and those that it leaves
abbrev pub left : LiveValue → List (List CallValue) → JournalValue → List Bool → Entry → List Bool
left v done j b e = drop (bits_taken (replay (so_far v done) j).state.core e) b

-- the lines of an entry are read
pub record ReadsOn (v : LiveValue) (done : List (List CallValue)) (j : JournalValue) (b : List Bool) (e : Entry) (later : List (List CallValue)) : Type 0 where
  pub journal : IsJournalOf (so_far v later) (longer j e (taken v done j b e))
  pub leads :
      (lines : List (List ℕ)) → leads_to (InEntries (so_far v done) j) (entry_lines v (taken v done j b e) e ++ lines)
      ≡ leads_to (InEntries (so_far v later) (longer j e (taken v done j b e))) lines
  pub next : carried v (replay_with (so_far v done) j b) e ≡ replay_with (so_far v later) (longer j e (taken v done j b e)) (left v done j b e)
  pub steps_are : steps (so_far v later) (longer j e (taken v done j b e)) ≡ steps (so_far v done) j ++ entry_steps v (replay_with (so_far v done) j b) e

-- a replay with these results left
abbrev with_results : List Bool → Replayed → Replayed
with_results bs r = record r { bits = bs }

-- the line of an entry that is no call is read, where its results are the first of those that are left
pub own_reads : (v : LiveValue) (done : List (List CallValue)) (j : JournalValue) (b : List Bool) (e : Entry) (line : List ℕ) → IsJournalOf (so_far v done) j
    → EntryFits (so_far v done) (replay_with (so_far v done) j (taken v done j b e)) e → (carried (so_far v done) (replay_with (so_far v done) j (taken v done j b e)) e).bits ≡ []
    → entry_lines v (taken v done j b e) e ≡ line ∷ [] → said_entry (replay (so_far v done) j) (replay (so_far v done) j).state.core.phase line ≡ Some (e, taken v done j b e)
    → carried v (replay_with (so_far v done) j b) e ≡ with_results (left v done j b e) (carried (so_far v done) (replay_with (so_far v done) j (taken v done j b e)) e)
    → entry_steps (so_far v done) (replay_with (so_far v done) j (taken v done j b e)) e ≡ entry_steps v (replay_with (so_far v done) j b) e → ReadsOn v done j b e done
own_reads v done j b e line is fits none lines said next same =
    let vd = so_far v done in
    let more = lengthened vd done j e (taken v done j b e) (λ c i x e. e) is fits none in
    record {
      journal = more.journal;
      leads = λ rest. ap (λ ls. leads_to (InEntries vd j) (ls ++ rest)) lines ∙ entry_leads vd j line e (taken v done j b e) rest said;
      next = next ∙ sym (ap (with_results (left v done j b e)) more.is);
      steps_are = more.steps_are ∙ ap (λ l. steps vd j ++ l) same;
    }

pub check_reads : (v : LiveValue) (done : List (List CallValue)) (j : JournalValue) (b : List Bool) (pass : ℕ) → IsJournalOf (so_far v done) j → EntryFits v (replay_with (so_far v done) j b) (Check pass)
    → ReadsOn v done j b (Check pass) done
check_reads v done j b pass is fits =
    let vd = so_far v done in
    let n = row_count (replay vd j).state.core in
    let bs = take n b in
    let count : length bs ≡ n = length-take-le n b fits.2 in
    let twice : take n bs ≡ bs = take-take n n b (omega arith) in
    own_reads v done j b (Check pass) (spelled_check pass bs) is (fits.0, fits.1, omega (arith, count)) (drop_of_length-le bs (omega (arith, count))) refl (said_check (replay vd j) pass bs fits.0 fits.1 count)
    (ap {A = List Bool} {B = Replayed} (λ l. record (carried v (replay_with vd j b) (Check pass)) { state = run (replay vd j).state (map (λ bit. load bit) l ++ observe ∷ []) }) (sym twice))
    (ap (load_steps pass (replay vd j).state.core.picks) twice)

pub call_reads : (v : LiveValue) (done : List (List CallValue)) (j : JournalValue) (b : List Bool) (c : ℕ) (answer : CallAnswer) (call : CallValue) → length done ≡ 4 → c < 4 → FitsCall v.setup.version call
    → IsJournalOf (so_far v done) j → IsFree (replay (so_far v done) j).state.core.phase → call_at v c (length (slice_index_or done c [])) ≡ Some call → answer ≡ call_answer call (replay (so_far v done) j).state.core
    → ReadsOn v done j b (Call c (length (slice_index_or done c [])) answer) (added_to c call done)
call_reads v done j b c answer call four few can is free there says =
    let vd = so_far v done in
    let i = length (slice_index_or done c []) in
    let e : Entry = Call c i answer in
    let later = added_to c call done in
    let last : called_in later c i ≡ Some call = added-last done c call (omega (arith, four, few)) in
    let more = lengthened vd later j e [] (added-keeps done c call) is (free, (call, last, says)) refl in
    let line = spelled_answer (call_answer call (replay vd j).state.core) in
    record {
      journal = more.journal;
      leads = λ lines.
          ap (λ o. leads_to (InEntries vd j) (answered_lines c i answer o ++ lines)) there
          ∙ ap (leads_to (InEntries vd j)) (append_assoc (call_lines c i call) (spelled_answer answer ∷ []) lines)
          ∙ call_leads vd j c call (spelled_answer answer ∷ lines) few free can
          ∙ ap (λ a. leads_to (AtAnswer vd j c call) (spelled_answer a ∷ lines)) says
          ∙ leads_by (AtAnswer vd j c call) (InEntries (so_far v later) (longer j (Call c i (call_answer call (replay vd j).state.core)) [])) line lines
          (found (same_word line line) (InEntries (so_far v later) (longer j (Call c i (call_answer call (replay vd j).state.core)) [])) (same_line line))
          ∙ ap (λ a. leads_to (InEntries (so_far v later) (longer j (Call c i a) [])) lines) (sym says);
      next =
          ap {A = Option CallValue} {B = Replayed} (λ o. record (carried v (replay_with vd j b) e) { state = run (replay vd j).state (option_map_or (λ k. call_event k ∷ []) o []) }) (there ∙ sym last)
          ∙ sym (ap (with_results b) more.is);
      steps_are = more.steps_are;
    }
