-- Lines that are read as entries are the lines of the journal that was read.
use Rattle.std.proofs.Common.{◌≡◌, ⊎_elim, ℕ, ◌+◌, ◌≤◌, ◌<◌, ◌&&◌, ◌==◌, Bool, true, false, List, [], ◌∷◌, ◌++◌, codes, length, map, take, Some, None, Ok, Err, refl, sym, ap, ◌∙◌, subst, append_assoc, drop_of_length-le, arith}
use Rattle.std.proofs.lemmas.Bool.Decides.{nat_tests}
use Rattle.std.proofs.Math.Seq.{take-length}
use Rattle.std.specs.Prelude.{Result, option_map, if◌then◌else◌}
use Rattle.std.specs.List.{list_all}
use Rattle.damon_types.specs.Space.{pages_of}
use Rattle.line_text.proofs.Lemmas.{after_prefix-Some}
use Rattle.line_text.specs.Line.{after_prefix}
use Rattle.line_text.specs.Parts.{parts}
use Rattle.live_commit.specs.declared.phase.Phase.{Phase}
use Rattle.live_commit.specs.declared.phase.Phase.TheVariants.{Idle, Clearing, Armed, Checking, Void as VoidPhase, Due}
use Rattle.live_commit.specs.Commit.{CommitValue}
use Rattle.script_lines.specs.declared.part.Part.{Part}
use Rattle.script_lines.specs.declared.kind.ScriptKind.{ScriptKind}
use Rattle.script_lines.specs.Body.{no_commit, part_line, with_part}
use Rattle.script_lines.proofs.Lemmas.{part_line-Ok}
use Rattle.script_lines.specs.Words.{same_word}
use Rattle.damon_core.specs.State.{row_count}
use Rattle.damon_control.specs.declared.live.TheConstants.{MAX_WORKERS}
use Rattle.damon_control.proofs.Lemmas.{no_commit_fits, parts_keep, parts_written}
use Rattle.damon_control.specs.Live.{CallValue, CommitCall, LiveValue, ShowCall}
use Rattle.damon_control.specs.JournalHead.{head_lines}
use Rattle.damon_control.specs.Spellable.{FitsCall}
use Rattle.damon_control.specs.WriteBack.{IsWritable}
use Rattle.damon_control.specs.Written.{part_text, written_commit}
use Rattle.run_journal.specs.declared.entry.Entry.{Entry}
use Rattle.run_journal.specs.declared.entry.Entry.TheVariants.{Prepare, Check, Void, Aggregate, Call}
use Rattle.run_journal.specs.declared.entry.Receipt.{Receipt}
use Rattle.run_journal.specs.Growth.{added_to, calls_so_far, with_call_of, longer}
use Rattle.journal_text.specs.EntryLine.{after_answer, after_block, after_call, after_call_of, after_call_word, after_entry, after_part, bits_of, is_free, is_idle, n_bits_of, said_entry, where_so}
use Rattle.run_journal.specs.Lawful.{all_of}
use Rattle.run_journal.specs.Phases.{IsFree, IsIdle}
use Rattle.journal_text.specs.Place.{AtAnswer, AtLast, InBlock, InEntries, InHead, InReceipts, JournalPlace, JournalRead}
use Rattle.run_journal.specs.Replay.{EntryFits, IsJournalOf, JournalValue, Replayed, bits_taken, call_answer, carried, replay}
use Rattle.journal_text.specs.Rules.{InTurn}
use Rattle.run_journal.specs.Limits.{CanCall}
use Rattle.journal_text.specs.SeenLine.{has_receipt}
use Rattle.journal_text.specs.Spelled.{answered_lines, bit_digit, call_front, call_lines, check_front, spelled_aggregate, spelled_answer, spelled_check, spelled_prepare, spelled_void}
use Rattle.run_journal.specs.Steps.{steps}
use Rattle.journal_text.specs.Text.{entry_lines, journal_lines, last_text, seen_lines}
use Rattle.journal_text.proofs.Common.{both_are, is_line, map_some, or_cases, past, past_or, then_some}
use Rattle.journal_text.proofs.EntriesRead.{free_decides, tries}
use Rattle.run_journal.proofs.Lemmas.{added-keeps, added-last, added-of, called_in, length-added, lengthened}
use Rattle.journal_text.proofs.LongerLines.{lengthened-lines}
use Rattle.journal_text.proofs.SeenSay.{AreSeen, none_seen}
use Rattle.journal_text.proofs.Turns.{AreInTurn, next_one, turn_called, turn_same}

-- ---- entries that are no calls

-- an entry that a line says: it stands in turn anywhere, it fits, it takes these results, and its line is this one
record SaidFits (v : LiveValue) (r : Replayed) (line : List ℕ) (said : Entry × List Bool) : Type 0 where
  alone : (next : List ℕ) → InTurn next (said.0 ∷ []) × (next_one next said.0 ≡ next)
  fits : EntryFits v (record r { bits = said.1 }) said.0
  none : (carried v (record r { bits = said.1 }) said.0).bits ≡ []
  lines : entry_lines v (take (bits_taken r.state.core said.0) said.1) said.0 ≡ line ∷ []

-- digits are those of the results that they say
bits_are : (cs : List ℕ) (bits : List Bool) → bits_of cs ≡ Some bits → cs ≡ map bit_digit bits
bits_are [] bits e = let none : [] ≡ bits = cc in ap (map bit_digit) none
bits_are (c ∷ cs) bits e =
    let rest = then_some (bits_of cs) _ bits e in
    let front = bits_are cs rest.0 rest.1 in
    past_or (λ bs. c ∷ cs ≡ map bit_digit bs) (c == 49) (true ∷ rest.0) bits (if c == 48 then Some (false ∷ rest.0) else None)
    (λ one. let digit : c ≡ 49 = grind (arith, nat_tests) in λ i. digit i ∷ front i)
    (past (λ bs. c ∷ cs ≡ map bit_digit bs) (c == 48) (false ∷ rest.0) bits (λ nothing. let digit : c ≡ 48 = grind (arith, nat_tests) in λ i. digit i ∷ front i))
    rest.2

-- and as many as were wanted
pub n_bits_are : (n : ℕ) (cs : List ℕ) (bits : List Bool) → n_bits_of n cs ≡ Some bits → (cs ≡ map bit_digit bits) × (length bits ≡ n)
n_bits_are n cs bits e =
    let some = then_some (bits_of cs) _ bits e in
    past (λ bs. (cs ≡ map bit_digit bs) × (length bs ≡ n)) (length some.0 == n) some.0 bits (λ many. (bits_are cs some.0 some.1, grind (arith, nat_tests))) some.2

-- an entry that is read fits, in each phase
said_fits : (v : LiveValue) (r : Replayed) (ph : Phase) (line : List ℕ) (said : Entry × List Bool) → r.state.core.phase ≡ ph → said_entry r ph line ≡ Some said → SaidFits v r line said
said_fits v r Idle line said phase e =
    let w = spelled_prepare (r.state.core.ticks + 1) r.drawn in
    past (SaidFits v r line) (same_word line w) (Prepare (r.state.core.ticks + 1) r.drawn, []) said
    (λ is. record { alone = λ next. (tt, refl); fits = (phase, refl, refl); none = refl; lines = ap (λ l. l ∷ []) (sym (is_line line w is)) }) e
said_fits v r Armed line said phase e =
    let n = row_count r.state.core in
    let pass = r.state.core.ticks + 1 in
    let some = map_some (λ (bits : List Bool). (Check pass, bits)) _ said e in
    let bits = some.0 in
    let rest = then_some (after_prefix (check_front pass) line) (n_bits_of n) bits some.1 in
    let are = n_bits_are n rest.0 bits rest.2 in
    let whole : line ≡ spelled_check pass bits = after_prefix-Some (check_front pass) line rest.0 rest.1 ∙ ap (λ l. check_front pass ++ l) are.0 in
    let all : take n bits ≡ bits = ap (λ k. take k bits) (sym are.1) ∙ take-length bits in
    subst (SaidFits v r line) some.2 (record {
      alone = λ next. (tt, refl);
      fits = (phase, refl, omega (arith, are.1));
      none = drop_of_length-le bits (omega (arith, are.1));
      lines = λ i. (ap (spelled_check pass) all ∙ sym whole) i ∷ [];
    })
said_fits v r VoidPhase line said phase e =
    let w = spelled_void (r.state.core.ticks + 1) in
    past (SaidFits v r line) (same_word line w) (Void (r.state.core.ticks + 1), []) said
    (λ is. record { alone = λ next. (tt, refl); fits = (phase, refl); none = refl; lines = ap (λ l. l ∷ []) (sym (is_line line w is)) }) e
said_fits v r Due line said phase e =
    let w = spelled_aggregate r.state.core.ticks r.drawn in
    past (SaidFits v r line) (same_word line w) (Aggregate r.state.core.ticks r.drawn, []) said
    (λ is. record { alone = λ next. (tt, refl); fits = (phase, refl, refl); none = refl; lines = ap (λ l. l ∷ []) (sym (is_line line w is)) }) e
said_fits v r (Clearing k) line said phase e = absurd cc
said_fits v r (Checking k) line said phase e = absurd cc

-- ---- what lines say that lead from the first entry to a place

-- a text can spell the seed, the setup and the calls
abbrev pub CanSpell : LiveValue → Type 0
CanSpell v = IsWritable v.seed v.setup × CanCall v

-- the entries of a journal, all carried out, of which a text can spell the script; `head` is the lines of its head
pub record SoundJournal (head : List (List ℕ)) (v : LiveValue) (j : JournalValue) : Type 0 where
  pub journal : IsJournalOf v j
  pub head_is : head_lines v.seed v.setup ≡ head
  pub four : length v.controllers ≡ 4
  pub turn : AreInTurn v j.entries
  pub can : CanSpell v

-- and a call that is made after them
pub record SoundCall (head : List (List ℕ)) (v : LiveValue) (j : JournalValue) (c : ℕ) (call : CallValue) : Type 0 where
  pub before : SoundJournal head v j
  pub free : IsFree (replay v j).state.core.phase
  pub few : c < 4
  pub fits : FitsCall v.setup.version call

-- or receipts
pub record SoundSeen (head : List (List ℕ)) (v : LiveValue) (j : JournalValue) (all : List (List Receipt)) : Type 0 where
  pub before : SoundJournal head v j
  pub workers : length all ≤ MAX_WORKERS
  pub idle : IsIdle (replay v j).state.core.phase
  pub seen : AreSeen (pages_of v.setup.space) (steps v j) all

-- the lines of a journal up to some lines after its receipts
abbrev pub lines_to : LiveValue → JournalValue → List (List Receipt) → List (List ℕ) → List (List ℕ)
lines_to v j all more = journal_lines v j ++ codes "receipts" ∷ (seen_lines v.setup.space 0 all ++ more)

-- the last lines, up to those that are wanted
pub record SayLast (head lines : List (List ℕ)) (said : JournalRead) (wanted : List (List ℕ)) : Type 0 where
  pub shown : List (List ℕ)
  pub spelled : lines ≡ lines_to said.live said.journal said.receipts (codes "settled" ∷ shown)
  pub sound : SoundSeen head said.live said.journal said.receipts
  pub received : list_all (has_receipt (all_of said.receipts)) (steps said.live said.journal) ≡ true
  pub rest : shown ++ wanted ≡ parts 10 (last_text (replay said.live said.journal).state)

-- the first word, the controller and the index of its next call
abbrev pub front_of : ℕ → LiveValue → List ℕ
front_of c v = call_front c (length (calls_so_far v c))

-- what lines say that lead to this place
abbrev pub SaysEntries : List (List ℕ) → List (List ℕ) → JournalPlace → Type 0
SaysEntries head lines (InEntries v j) = (lines ≡ journal_lines v j) × SoundJournal head v j
SaysEntries head lines (InBlock v j c commit) = (lines ≡ journal_lines v j ++ (front_of c v ++ codes "commit") ∷ written_commit commit) × SoundCall head v j c (CommitCall commit)
SaysEntries head lines (AtAnswer v j c call) = (lines ≡ journal_lines v j ++ call_lines c (length (calls_so_far v c)) call) × SoundCall head v j c call
SaysEntries head lines (InReceipts v j all) = (lines ≡ lines_to v j all []) × SoundSeen head v j all
SaysEntries head lines (AtLast said wanted) = SayLast head lines said wanted
SaysEntries head lines (InHead p) = ⊥

-- ---- among the entries

-- a phase that passes the test is idle
is_idle-IsIdle : (ph : Phase) → is_idle ph ≡ true → IsIdle ph
is_idle-IsIdle Idle e = refl
is_idle-IsIdle Armed e = absurd cc
is_idle-IsIdle VoidPhase e = absurd cc
is_idle-IsIdle (Clearing k) e = absurd cc
is_idle-IsIdle (Checking k) e = absurd cc
is_idle-IsIdle Due e = absurd cc

-- a line of an entry that is no call
entry_says : (head lines : List (List ℕ)) (v : LiveValue) (j : JournalValue) (line : List ℕ) (next : JournalPlace) → SaysEntries head lines (InEntries v j)
    → option_map (λ (x : Entry × List Bool). InEntries v (longer j x.0 x.1)) (said_entry (replay v j) (replay v j).state.core.phase line) ≡ Some next → SaysEntries head (lines ++ line ∷ []) next
entry_says head lines v j line next says e =
    let some = map_some (λ (x : Entry × List Bool). InEntries v (longer j x.0 x.1)) (said_entry (replay v j) (replay v j).state.core.phase line) next e in
    let fits = said_fits v (replay v j) (replay v j).state.core.phase line some.0 refl some.1 in
    let before = says.1 in
    let more = lengthened v v.controllers j some.0.0 some.0.1 (λ c i x is. is) before.journal fits.fits fits.none in
    subst (SaysEntries head (lines ++ line ∷ [])) some.2 (
      (λ i. says.0 i ++ sym fits.lines i) ∙ sym (lengthened-lines v v.controllers j some.0.0 some.0.1 (λ c i x is. is) before.journal),
      record { journal = more.journal; head_is = before.head_is; four = before.four; turn = turn_same v j.entries some.0.0 fits.alone before.turn; can = before.can },
    )

-- the first line of a call of this controller
call_says : (head lines : List (List ℕ)) (v : LiveValue) (j : JournalValue) (c : ℕ) (line : List ℕ) (next : JournalPlace) → c < 4 → IsFree (replay v j).state.core.phase
    → SaysEntries head lines (InEntries v j) → after_call_of v j c line ≡ Some next → SaysEntries head (lines ++ line ∷ []) next
call_says head lines v j c line next few free says e =
    let word = then_some (after_prefix (front_of c v) line) (after_call_word v j c) next e in
    let spells : (w : List ℕ) → same_word word.0 w ≡ true → lines ++ line ∷ [] ≡ journal_lines v j ++ (front_of c v ++ w) ∷ [] =
    λ w same i. says.0 i ++ (after_prefix-Some (front_of c v) line word.0 word.1 ∙ ap (λ x. front_of c v ++ x) (is_line word.0 w same)) i ∷ []
    in
    past_or (SaysEntries head (lines ++ line ∷ [])) (same_word word.0 (codes "show")) (AtAnswer v j c ShowCall) next (where_so (same_word word.0 (codes "commit")) (InBlock v j c no_commit))
    (λ show. (spells (codes "show") show, record { before = says.1; free = free; few = few; fits = tt }))
    (past (SaysEntries head (lines ++ line ∷ [])) (same_word word.0 (codes "commit")) (InBlock v j c no_commit) next
    (λ commit. (spells (codes "commit") commit, record { before = says.1; free = free; few = few; fits = no_commit_fits v.setup.version })))
    word.2

-- the first line of a call, where one may be made
called_says : (head lines : List (List ℕ)) (v : LiveValue) (j : JournalValue) (line : List ℕ) (next : JournalPlace) → SaysEntries head lines (InEntries v j)
    → (test : Bool) → is_free (replay v j).state.core.phase ≡ test → (if test then tries v j line else None) ≡ Some next → SaysEntries head (lines ++ line ∷ []) next
called_says head lines v j line next says false is tried = absurd cc
called_says head lines v j line next says true is tried =
    let free = (free_decides (replay v j).state.core.phase).0 is in
    or_cases (after_call_of v j 0 line) _ next (call_says head lines v j 0 line next (omega arith) free says)
    (or_cases (after_call_of v j 1 line) _ next (call_says head lines v j 1 line next (omega arith) free says)
    (or_cases (after_call_of v j 2 line) _ next (call_says head lines v j 2 line next (omega arith) free says)
    (call_says head lines v j 3 line next (omega arith) free says))) tried

-- a line among the entries
pub in_entries : (head lines : List (List ℕ)) (v : LiveValue) (j : JournalValue) (line : List ℕ) (next : JournalPlace) → SaysEntries head lines (InEntries v j) → after_entry v j line ≡ Some next
    → SaysEntries head (lines ++ line ∷ []) next
in_entries head lines v j line next says =
    or_cases (option_map (λ (x : Entry × List Bool). InEntries v (longer j x.0 x.1)) (said_entry (replay v j) (replay v j).state.core.phase line)) _ next
    (entry_says head lines v j line next says)
    (or_cases (where_so (same_word line (codes "receipts") && is_idle (replay v j).state.core.phase) (InReceipts v j [])) (after_call v j line) next
    (past (SaysEntries head (lines ++ line ∷ [])) (same_word line (codes "receipts") && is_idle (replay v j).state.core.phase) (InReceipts v j []) next receipts)
    (called_says head lines v j line next says (is_free (replay v j).state.core.phase) refl))
  where
    receipts : (same_word line (codes "receipts") && is_idle (replay v j).state.core.phase) ≡ true → SaysEntries head (lines ++ line ∷ []) (InReceipts v j [])
    receipts is =
        let both = both_are (same_word line (codes "receipts")) (is_idle (replay v j).state.core.phase) is in (
          λ i. says.0 i ++ is_line line (codes "receipts") both.0 i ∷ [],
          record { before = says.1; workers = omega arith; idle = is_idle-IsIdle (replay v j).state.core.phase both.1; seen = none_seen (pages_of v.setup.space) (steps v j) },
        )

-- ---- the lines of a call

-- a line of the block of a commit: `apply`, or a part
pub in_block : (head lines : List (List ℕ)) (v : LiveValue) (j : JournalValue) (c : ℕ) (commit : CommitValue) (line : List ℕ) (next : JournalPlace)
    → SaysEntries head lines (InBlock v j c commit) → after_block v j c commit line ≡ Some next → SaysEntries head (lines ++ line ∷ []) next
in_block head lines v j c commit line next says =
    past_or (SaysEntries head (lines ++ line ∷ [])) (same_word line (codes "apply")) (AtAnswer v j c (CommitCall commit)) next (after_part v j c commit line (part_line v.setup.version commit line))
    (λ apply. (spells (codes "apply") apply, says.1)) (by (part_line v.setup.version commit line) refl)
  where
    first : List ℕ
    first = front_of c v ++ codes "commit"

    spells : (w : List ℕ) → same_word line w ≡ true → lines ++ line ∷ [] ≡ journal_lines v j ++ first ∷ (written_commit commit ++ w ∷ [])
    spells w same = (λ i. says.0 i ++ is_line line w same i ∷ []) ∙ append_assoc (journal_lines v j) (first ∷ written_commit commit) (w ∷ [])

    by : (r : Result Part ScriptKind) → part_line v.setup.version commit line ≡ r → after_part v j c commit line r ≡ Some next → SaysEntries head (lines ++ line ∷ []) next
    by (Err kind) read other = absurd cc
    by (Ok part) read other = past (SaysEntries head (lines ++ line ∷ [])) (same_word line (part_text part)) (InBlock v j c (with_part commit part)) next (λ is. (
      spells (part_text part) is ∙ ap (λ ls. journal_lines v j ++ first ∷ ls) (sym (parts_written v.setup.version commit part (part_line-Ok v.setup.version commit line part read).0)),
      record { before = says.1.before; free = says.1.free; few = says.1.few; fits = parts_keep v.setup.version commit line part read says.1.fits },
    )) other

-- a text can spell each call, and one call more
added_can : (v : LiveValue) (c : ℕ) (call : CallValue) → CanSpell v → FitsCall v.setup.version call → CanSpell (with_call_of v c call)
added_can v c call can fits = (
  can.0,
  λ k i x is. ⊎_elim
      (λ before. can.1 k i x before)
      (λ (last : (k ≡ c) × (i ≡ length (calls_so_far v c)) × (call ≡ x)). subst (FitsCall v.setup.version) last.2 fits)
      (added-of v.controllers c call k i x is),
)

-- the answer of a call, with which its entry is whole
pub at_answer : (head lines : List (List ℕ)) (v : LiveValue) (j : JournalValue) (c : ℕ) (call : CallValue) (line : List ℕ) (next : JournalPlace)
    → SaysEntries head lines (AtAnswer v j c call) → after_answer v j c call line ≡ Some next → SaysEntries head (lines ++ line ∷ []) next
at_answer head lines v j c call line next says =
    let i = length (calls_so_far v c) in
    let answer = call_answer call (replay v j).state.core in
    let later = added_to c call v.controllers in
    let before = says.1.before in
    let last : called_in later c i ≡ Some call = added-last v.controllers c call (omega (arith, before.four, says.1.few)) in
    let more = lengthened v later j (Call c i answer) [] (added-keeps v.controllers c call) before.journal (says.1.free, (call, last, refl)) refl in
    past (SaysEntries head (lines ++ line ∷ [])) (same_word line (spelled_answer answer)) (InEntries (with_call_of v c call) (longer j (Call c i answer) [])) next (λ is. (
      (λ k. says.0 k ++ is_line line (spelled_answer answer) is k ∷ [])
          ∙ append_assoc (journal_lines v j) (call_lines c i call) (spelled_answer answer ∷ [])
          ∙ ap (λ o. journal_lines v j ++ answered_lines c i answer o) (sym last)
          ∙ sym (lengthened-lines v later j (Call c i answer) [] (added-keeps v.controllers c call) before.journal),
      record {
        journal = more.journal;
        head_is = before.head_is;
        four = length-added v.controllers c call ∙ before.four;
        turn = turn_called v j.entries c call answer (omega (arith, before.four, says.1.few)) before.turn;
        can = added_can v c call before.can says.1.fits;
      },
    ))
