-- The lines of all entries of a journal are read back.
use Rattle.std.proofs.Common.{◌≡◌, ⊎_elim, ℕ, zero, suc, ◌<◌, Bool, List, [], ◌∷◌, ◌++◌, length, map, Some, refl, sym, ap, ◌∙◌, subst, append_assoc, append-nil, take-append-drop, arith}
use Rattle.std.proofs.lemmas.List.{length-map}
use Rattle.std.specs.Prelude.{slice_index_or}
use Rattle.std.specs.List.{Contains}
use Rattle.damon_control.specs.Live.{CallValue, LiveValue}
use Rattle.run_journal.specs.declared.entry.CallAnswer.{CallAnswer}
use Rattle.run_journal.specs.declared.entry.Entry.{Entry}
use Rattle.run_journal.specs.declared.entry.Entry.TheVariants.{Prepare, Check, Void, Aggregate, Call}
use Rattle.run_journal.specs.Growth.{added_to, longer, replay_with}
use Rattle.journal_text.specs.Place.{InEntries}
use Rattle.run_journal.specs.Replay.{EntriesFit, EntryFits, IsJournalOf, JournalValue, Replayed, begun, bits_taken, call_at, carried, replay, replay_from}
use Rattle.run_journal.specs.Room.{nothing_said}
use Rattle.journal_text.specs.Rules.{CallsInTurn, InTurn}
use Rattle.run_journal.specs.Limits.{CanCall}
use Rattle.run_journal.specs.Steps.{entry_steps, steps, steps_from}
use Rattle.journal_text.specs.Spelled.{spelled_aggregate, spelled_prepare, spelled_void}
use Rattle.journal_text.specs.Text.{entries_lines, entry_lines, journal_lines}
use Rattle.journal_text.proofs.EntriesRead.{ReadsOn, call_reads, check_reads, left, own_reads, said_aggregate, said_prepare, said_void, so_far, taken}
use Rattle.journal_text.proofs.Leading.{leads_to}
use Rattle.run_journal.proofs.Lemmas.{added-of, called_in, length-added, cases}
use Rattle.journal_text.proofs.Turns.{counts-added, counts-at}

-- ---- calls

-- four controllers without calls
abbrev pub no_calls : List (List CallValue)
no_calls = [] ∷ [] ∷ [] ∷ [] ∷ []

-- each of these calls is one of the script, with its index
abbrev AreOf : LiveValue → List (List CallValue) → Type 0
AreOf v lists = (c i : ℕ) (x : CallValue) → called_in lists c i ≡ Some x → call_at v c i ≡ Some x

-- a call of theirs is none
pub none_called : (c i : ℕ) (x : CallValue) → called_in no_calls c i ≡ Some x → ⊥
none_called zero i x is = cc
none_called (suc zero) i x is = cc
none_called (suc (suc zero)) i x is = cc
none_called (suc (suc (suc zero))) i x is = cc
none_called (suc (suc (suc (suc c)))) i x is = cc

more_of : (v : LiveValue) (done : List (List CallValue)) (k : ℕ) (call : CallValue) → AreOf v done → call_at v k (length (slice_index_or done k [])) ≡ Some call → AreOf v (added_to k call done)
more_of v done k call are there c i x is = ⊎_elim
    (λ before. are c i x before)
    (λ (last : (c ≡ k) × (i ≡ length (slice_index_or done k [])) × (call ≡ x)). (λ n. call_at v (last.0 n) (last.1 n)) ∙ (there ∙ ap (λ y. Some y) last.2))
    (added-of done k call c i x is)

-- a call among entries that fit is one of the script
called : (v : LiveValue) (c i : ℕ) (answer : CallAnswer) (es : List Entry) (r : Replayed) → EntriesFit v r es → Contains es (Call c i answer) → (call : CallValue) × (call_at v c i ≡ Some call)
called v c i answer [] r fit (k, within, is) = absurd (omega (arith, within))
called v c i answer (e ∷ es) r fit there = ⊎_elim
    (λ (same : e ≡ Call c i answer). let here = subst (EntryFits v r) same fit.0 in (here.1.0, here.1.1))
    (λ later. called v c i answer es (carried v r e) fit.1 later)
    (cases e es (Call c i answer) there)

-- ---- all entries

-- an entry is read, and the calls after it are in turn
record NextRead (v : LiveValue) (done : List (List CallValue)) (j : JournalValue) (b : List Bool) (e : Entry) (es : List Entry) : Type 0 where
  later : List (List CallValue)
  four : length later ≡ 4
  reads : ReadsOn v done j b e later
  turn : InTurn (map length later) es
  are : AreOf v later

-- an entry that fits is read, and after a call the indexes go on
next_read : (v : LiveValue) → CanCall v → (done : List (List CallValue)) (j : JournalValue) (b : List Bool) (e : Entry) (es : List Entry) → length done ≡ 4 → IsJournalOf (so_far v done) j
    → EntryFits v (replay_with (so_far v done) j b) e → InTurn (map length done) (e ∷ es) → AreOf v done → NextRead v done j b e es
next_read v can done j b (Prepare pass pos) es four is fits turn are =
    let reads = own_reads v done j b (Prepare pass pos) (spelled_prepare pass pos) is fits refl refl (said_prepare (replay (so_far v done) j) pass pos fits.0 fits.1 fits.2) refl refl in
    record { later = done; four = four; reads = reads; turn = turn; are = are }
next_read v can done j b (Check pass) es four is fits turn are = record { later = done; four = four; reads = check_reads v done j b pass is fits; turn = turn; are = are }
next_read v can done j b (Void pass) es four is fits turn are =
    let reads = own_reads v done j b (Void pass) (spelled_void pass) is fits refl refl (said_void (replay (so_far v done) j) pass fits.0 fits.1) refl refl in
    record { later = done; four = four; reads = reads; turn = turn; are = are }
next_read v can done j b (Aggregate tick pos) es four is fits turn are =
    let reads = own_reads v done j b (Aggregate tick pos) (spelled_aggregate tick pos) is fits refl refl (said_aggregate (replay (so_far v done) j) tick pos fits.0 fits.1 fits.2) refl refl in
    record { later = done; four = four; reads = reads; turn = turn; are = are }
next_read v can done j b (Call c i answer) es four is fits turn are =
    let call = fits.1.0 in
    let count : i ≡ length (slice_index_or done c []) = turn.1 ∙ counts-at done c in
    let few : c < 4 = omega (arith, turn.0, length-map done length, four) in
    let there : call_at v c (length (slice_index_or done c [])) ≡ Some call = ap (call_at v c) (sym count) ∙ fits.1.1 in
    record {
      later = added_to c call done;
      four = length-added done c call ∙ four;
      reads = subst (λ k. ReadsOn v done j b (Call c k answer) (added_to c call done)) (sym count)
          (call_reads v done j b c answer call four few (can c i call fits.1.1) is fits.0 there fits.1.2);
      turn = subst (λ ks. InTurn ks es) (counts-added done c call) turn.2;
      are = more_of v done c call are there;
    }

-- entries are read to their end, from a journal that was read before them
record AllRead (v : LiveValue) (done : List (List CallValue)) (j : JournalValue) (r : Replayed) (b : List Bool) (es : List Entry) : Type 0 where
  later : List (List CallValue)
  new : JournalValue
  are : AreOf v later
  journal : IsJournalOf (so_far v later) new
  entries : new.entries ≡ j.entries ++ es
  bits : new.bits ++ (replay_from v r es).bits ≡ j.bits ++ b
  next : replay_from v r es ≡ replay_with (so_far v later) new (replay_from v r es).bits
  leads : (lines : List (List ℕ)) → leads_to (InEntries (so_far v done) j) (entries_lines v r es ++ lines) ≡ leads_to (InEntries (so_far v later) new) lines
  steps_are : steps (so_far v later) new ≡ steps (so_far v done) j ++ steps_from v r es

-- entries that fit are read, one after another
all_read : (v : LiveValue) → CanCall v → (done : List (List CallValue)) (j : JournalValue) (b : List Bool) (es : List Entry) → length done ≡ 4 → IsJournalOf (so_far v done) j
    → EntriesFit v (replay_with (so_far v done) j b) es → InTurn (map length done) es → AreOf v done → AllRead v done j (replay_with (so_far v done) j b) b es
all_read v can done j b [] four is fit turn are = record { later = done; are = are; new = j; journal = is; entries = sym (append-nil j.entries); bits = refl; next = refl; leads = λ lines. refl; steps_are = sym (append-nil (steps (so_far v done) j)) }
all_read v can done j b (e ∷ es) four is fit turn are =
    let r = replay_with (so_far v done) j b in
    let here = next_read v can done j b e es four is fit.0 turn are in
    let bs = taken v done j b e in
    let b2 = left v done j b e in
    let j2 = longer j e bs in
    let next = here.reads.next in
    let rest = all_read v can here.later j2 b2 es here.four here.reads.journal (subst (λ y. EntriesFit v y es) next fit.1) here.turn here.are in
    record {
      later = rest.later;
      are = rest.are;
      new = rest.new;
      journal = rest.journal;
      entries = rest.entries ∙ append_assoc j.entries (e ∷ []) es;
      bits =
          ap (λ y. rest.new.bits ++ (replay_from v y es).bits) next
          ∙ rest.bits
          ∙ append_assoc j.bits bs b2
          ∙ ap (λ l. j.bits ++ l) (take-append-drop (bits_taken (replay (so_far v done) j).state.core e) b);
      next = subst (λ y. replay_from v y es ≡ replay_with (so_far v rest.later) rest.new (replay_from v y es).bits) (sym next) rest.next;
      leads = λ lines.
          ap (leads_to (InEntries (so_far v done) j)) (append_assoc (entry_lines v bs e) (entries_lines v (carried v r e) es) lines)
          ∙ here.reads.leads (entries_lines v (carried v r e) es ++ lines)
          ∙ ap (λ y. leads_to (InEntries (so_far v here.later) j2) (entries_lines v y es ++ lines)) next
          ∙ rest.leads lines;
      steps_are =
          rest.steps_are
          ∙ ap (λ l. l ++ steps_from v (replay_with (so_far v here.later) j2 b2) es) here.reads.steps_are
          ∙ append_assoc (steps (so_far v done) j) (entry_steps v r e) (steps_from v (replay_with (so_far v here.later) j2 b2) es)
          ∙ ap (λ y. steps (so_far v done) j ++ (entry_steps v r e ++ steps_from v y es)) (sym next);
    }

-- the lines of a journal's entries are read as the journal, and the state is that of its replay
pub record JournalIsRead (v : LiveValue) (j : JournalValue) : Type 0 where
  pub later : List (List CallValue)
  pub calls : (c i : ℕ) (answer : CallAnswer) → Contains j.entries (Call c i answer) → call_at (so_far v later) c i ≡ call_at v c i
  pub journal : IsJournalOf (so_far v later) j
  pub state : (replay (so_far v later) j).state ≡ (replay v j).state
  pub leads :
      (lines : List (List ℕ)) → leads_to (InEntries (so_far v no_calls) nothing_said) (journal_lines v j ++ lines)
      ≡ leads_to (InEntries (so_far v later) j) lines
  pub steps_are : steps (so_far v later) j ≡ steps v j

-- from the first entry to the last
pub journal_read : (v : LiveValue) → CanCall v → (j : JournalValue) → IsJournalOf v j → CallsInTurn j.entries → JournalIsRead v j
journal_read v can j is turn =
    let all = all_read v can no_calls nothing_said j.bits j.entries refl (record { fit = tt; none_left = refl }) is.fit turn (λ c i x there. absurd (none_called c i x there)) in
    let bits : all.new.bits ≡ j.bits = sym (append-nil all.new.bits) ∙ ap (λ l. all.new.bits ++ l) (sym is.none_left) ∙ all.bits in
    let same : all.new ≡ j = λ i. record { entries = all.entries i; bits = bits i } in
    let state : (replay (so_far v all.later) all.new).state ≡ (replay v j).state = sym (ap (λ (r : Replayed). r.state) all.next) in
    let journal = subst (λ x. IsJournalOf (so_far v all.later) x) same all.journal in
    record {
      later = all.later;
      calls = λ c i answer there. (let read = called (so_far v all.later) c i answer j.entries (begun (so_far v all.later) j.bits) journal.fit there in read.1 ∙ sym (all.are c i read.0 read.1));
      journal = journal;
      state = subst (λ x. (replay (so_far v all.later) x).state ≡ (replay v j).state) same state;
      leads = λ lines. all.leads lines ∙ ap (λ x. leads_to (InEntries (so_far v all.later) x) lines) same;
      steps_are = subst (λ x. steps (so_far v all.later) x ≡ steps v j) same all.steps_are;
    }
