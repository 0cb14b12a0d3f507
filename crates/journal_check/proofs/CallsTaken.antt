-- What the reader keeps of the entries, after a call; and the first line of a call.
use Rattle.std.proofs.Common.{◌≡◌, ℕ, zero, suc, ◌+◌, ◌<◌, ◌≤◌, Bool, true, false, List, [], ◌∷◌, ◌++◌, length, map, get_or, set, Some, None, refl, sym, ap, ◌∙◌, subst, length-append, arith}
use Rattle.std.specs.Prelude.{Option, if◌then◌else◌}
use Rattle.std.specs.List.{AllByRecursion}
use Rattle.std.specs.Option.{option_or}
use Rattle.script_lines.specs.Words.{same_word}
use Rattle.damon_core.specs.State.{Core}
use Rattle.damon_control.specs.Live.{CallValue, LiveValue}
use Rattle.run_journal.specs.declared.entry.CallAnswer.{CallAnswer}
use Rattle.run_journal.specs.declared.entry.Entry.TheVariants.{Call}
use Rattle.journal_check.specs.declared.entries.fold.Fold.{Fold}
use Rattle.journal_check.specs.declared.entries.calls.Asked.{Asked}
use Rattle.journal_check.specs.declared.journal_lines.JournalLines.{JournalLines}
use Rattle.run_journal.specs.declared.lawful.Lawful.{Lawful}
use Rattle.journal_check.specs.Ahead.{AheadView}
use Rattle.journal_check.specs.CallLine.{place_asked}
use Rattle.run_journal.specs.Growth.{added_to, calls_so_far, with_call_of, longer}
use Rattle.journal_text.specs.EntryLine.{after_answer, after_call, after_call_of, after_entry, is_free, where_so}
use Rattle.journal_check.specs.Folding.{FoldStands, IsWithin}
use Rattle.journal_check.specs.Kept.{GainsEntry}
use Rattle.journal_check.specs.LinesLeft.{said_left, said_on}
use Rattle.journal_text.specs.Place.{AtAnswer, InEntries, JournalPlace}
use Rattle.run_journal.specs.Replay.{JournalValue, call_answer, replay}
use Rattle.run_journal.specs.Replaying.{IsCarried}
use Rattle.journal_text.specs.Spelled.{spelled_answer}
use Rattle.journal_check.proofs.BlockTaken.{leads_on}
use Rattle.journal_check.proofs.EntriesTaken.{all_later, entry_stands, within_more}
use Rattle.journal_check.proofs.KeptEntries.{kept_after_call}
use Rattle.journal_text.proofs.Lemmas.{counts-at, counts-length}

-- ---- the first line of a call

-- four tries, of which the first that succeeds counts
abbrev tries : (ℕ → Option JournalPlace) → Option JournalPlace
tries f = option_or (f 0) (option_or (f 1) (option_or (f 2) (f 3)))

first_is : (o p : Option JournalPlace) (x : JournalPlace) → o ≡ Some x → option_or o p ≡ Some x
first_is o p x is = ap (λ (q : Option JournalPlace). option_or q p) is

next_is : (o p q : Option JournalPlace) → o ≡ None → p ≡ q → option_or o p ≡ q
next_is o p q none is = ap (λ (r : Option JournalPlace). option_or r p) none ∙ is

-- the try that succeeds after others that do not
first_try : (f : ℕ → Option JournalPlace) (k : ℕ) (x : JournalPlace) → k < 4 → f k ≡ Some x → ((i : ℕ) → i < k → f i ≡ None) → tries f ≡ Some x
first_try f zero x few is none = first_is (f 0) _ x is
first_try f (suc zero) x few is none = next_is (f 0) _ _ (none 0 (omega arith)) (first_is (f 1) _ x is)
first_try f (suc (suc zero)) x few is none = next_is (f 0) _ _ (none 0 (omega arith)) (next_is (f 1) _ _ (none 1 (omega arith)) (first_is (f 2) _ x is))
first_try f (suc (suc (suc zero))) x few is none =
    next_is (f 0) _ _ (none 0 (omega arith)) (next_is (f 1) _ _ (none 1 (omega arith)) (next_is (f 2) _ _ (none 2 (omega arith)) is))
first_try f (suc (suc (suc (suc k)))) x few is none = absurd (omega (arith, few))

-- the line is the first of a call of this controller
pub called_by : (v : LiveValue) (j : JournalValue) (line : List ℕ) (controller : ℕ) (place : JournalPlace) → is_free (replay v j).state.core.phase ≡ true → controller < 4 → after_call_of v j controller line ≡ Some place
    → ((i : ℕ) → i < controller → after_call_of v j i line ≡ None) → after_call v j line ≡ Some place
called_by v j line controller place free few is none =
    ap (λ (b : Bool). if b then tries (λ k. after_call_of v j k line) else None) free
    ∙ first_try (λ k. after_call_of v j k line) controller place few is none

-- the line is the first of no call of a controller
pub called_by_none : (v : LiveValue) (j : JournalValue) (line : List ℕ) → is_free (replay v j).state.core.phase ≡ true → ((i : ℕ) → i < 4 → after_call_of v j i line ≡ None) → after_call v j line ≡ None
called_by_none v j line free none =
    ap (λ (b : Bool). if b then tries (λ k. after_call_of v j k line) else None) free
    ∙ next_is (after_call_of v j 0 line) _ _ (none 0 (omega arith)) (next_is (after_call_of v j 1 line) _ _ (none 1 (omega arith)) (next_is (after_call_of v j 2 line) _ _ (none 2 (omega arith)) (none 3 (omega arith))))

-- the phase of the state is that of the monitor
pub free_is : (v : LiveValue) (j : JournalValue) (f : Fold) → FoldStands v j f → is_free (replay v j).state.core.phase ≡ is_free f.replay.monitor.core.phase
free_is v j f h = ap (λ (c : Core). is_free c.phase) (sym h.replay.stands.same)

-- from the first line of a call to its answer
pub called_on : (v : LiveValue) (j : JournalValue) (controller : ℕ) (asked : Asked) (call : CallValue) (line : List ℕ) (before after : JournalLines) → after_entry v j line ≡ after_call v j line
    → Some (place_asked v j controller asked) ≡ after_call v j line → said_left (place_asked v j controller asked) before ≡ said_left (AtAnswer v j controller call) after
    → said_on (InEntries v j) line before ≡ said_left (AtAnswer v j controller call) after
called_on v j controller asked call line before after is place read = leads_on (InEntries v j) (place_asked v j controller asked) line before (is ∙ sym place) ∙ read

-- ---- the numbers of calls

-- the number of calls so far of a controller
pub index_is : (v : LiveValue) (j : JournalValue) (f : Fold) (controller : ℕ) → FoldStands v j f → get_or f.next controller 0 ≡ length (calls_so_far v controller)
index_is v j f controller h = ap (λ (ns : List ℕ). get_or ns controller 0) h.next ∙ counts-at v.controllers controller

-- there are as many controllers as numbers of calls
pub controllers_are : (v : LiveValue) (j : JournalValue) (f : Fold) → FoldStands v j f → length v.controllers ≡ length f.next
controllers_are v j f h = sym (counts-length v.controllers) ∙ ap length (sym h.next)

-- one more call of a controller
one_more : (lists : List (List CallValue)) (k : ℕ) (call : CallValue) → set (map (λ calls. length calls) lists) k (get_or (map (λ calls. length calls) lists) k 0 + 1) ≡ map (λ calls. length calls) (added_to k call lists)
one_more [] zero call = refl
one_more [] (suc k) call = refl
one_more (l ∷ lists) zero call =
    let more : length l + 1 ≡ length (l ++ call ∷ []) = omega (arith, length-append l (call ∷ [])) in
    ap (λ (n : ℕ). n ∷ map (λ calls. length calls) lists) more
one_more (l ∷ lists) (suc k) call = ap (λ (ns : List ℕ). length l ∷ ns) (one_more lists k call)

-- ---- what stands after a call

-- all but the replay and the number of calls of the controller stays
pub record KeepsRest (controller : ℕ) (call : CallValue) (old new : Fold) : Type 0 where
  pub version : new.version ≡ old.version
  pub next : new.next ≡ set old.next controller (get_or old.next controller 0 + 1)
  pub ahead : new.ahead ≡ old.ahead
  pub space : new.replay.monitor.core.space ≡ old.replay.monitor.core.space
  pub open_is : new.unreceived ≡ old.unreceived
  pub counts : new.counts ≡ old.counts
  pub kept : GainsEntry old.kept new.kept [] ((old.kept.entries, Some call) ∷ [])

pub call_stands : (v : LiveValue) (j : JournalValue) (controller : ℕ) (call : CallValue) (answer : CallAnswer) (old new : Fold) → FoldStands v j old
    → IsCarried v (with_call_of v controller call) j (Call controller (length (calls_so_far v controller)) answer) [] new.replay → controller < length v.controllers → KeepsRest controller call old new
    → FoldStands (with_call_of v controller call) (longer j (Call controller (length (calls_so_far v controller)) answer) []) new
call_stands v j controller call answer old new h c below rest =
    let next = rest.next ∙ (ap (λ (ns : List ℕ). set ns controller (get_or ns controller 0 + 1)) h.next ∙ one_more v.controllers controller call) in
    let kept = kept_after_call v j controller call answer old.kept new.kept h.replay.journal below h.kept rest.kept in
    entry_stands v (with_call_of v controller call) j (Call controller (length (calls_so_far v controller)) answer) old new h c refl c.steps_are refl rest.version next rest.ahead rest.space rest.open_is rest.counts kept

-- ---- the answer

-- the place after the answer that the state gives
pub answered : (v : LiveValue) (j : JournalValue) (controller : ℕ) (call : CallValue) (line : List ℕ) (answer : CallAnswer) → answer ≡ call_answer call (replay v j).state.core → same_word line (spelled_answer answer) ≡ true
    → after_answer v j controller call line ≡ Some (InEntries (with_call_of v controller call) (longer j (Call controller (length (calls_so_far v controller)) answer) []))
answered v j controller call line answer told same =
    let place = λ (a : CallAnswer). InEntries (with_call_of v controller call) (longer j (Call controller (length (calls_so_far v controller)) a) []) in
    ap (λ (a : CallAnswer). where_so (same_word line (spelled_answer a)) (place a)) (sym told)
    ∙ ap (λ (b : Bool). where_so b (place answer)) same

-- no other answer may stand there
pub answered_wrong : (v : LiveValue) (j : JournalValue) (controller : ℕ) (call : CallValue) (line : List ℕ) (answer : CallAnswer) → answer ≡ call_answer call (replay v j).state.core → same_word line (spelled_answer answer) ≡ false
    → after_answer v j controller call line ≡ None
answered_wrong v j controller call line answer told other =
    let place = λ (a : CallAnswer). InEntries (with_call_of v controller call) (longer j (Call controller (length (calls_so_far v controller)) a) []) in
    ap (λ (a : CallAnswer). where_so (same_word line (spelled_answer a)) (place a)) (sym told)
    ∙ ap (λ (b : Bool). where_so b (place answer)) other

-- ---- the numbers that are kept

all_set : (ns : List ℕ) (i x m : ℕ) → x ≤ m → AllByRecursion (λ k. k ≤ m) ns → AllByRecursion (λ k. k ≤ m) (set ns i x)
all_set [] i x m below all = tt
all_set (k ∷ ns) zero x m below all = (below, all.1)
all_set (k ∷ ns) (suc i) x m below all = (all.0, all_set ns i x m below all.1)

-- each number of calls is within the lines
pub calls_within : (ns : List ℕ) (i n : ℕ) → AllByRecursion (λ k. k ≤ n) ns → get_or ns i 0 ≤ n
calls_within [] i n all = omega arith
calls_within (k ∷ ns) zero n all = all.0
calls_within (k ∷ ns) (suc i) n all = calls_within ns i n all.1

-- more lines
pub within_later : (f : Fold) (n m : ℕ) → n ≤ m → IsWithin f n → IsWithin f m
within_later f n m later w = record {
  ticks = omega (arith, w.ticks, later);
  drawn = omega (arith, w.drawn, later);
  next = all_later f.next n m later w.next;
  passes = omega (arith, w.passes, later);
  loads = omega (arith, w.loads, later);
  hits = w.hits;
  open_few = w.open_few;
  pages = w.pages;
  entries = omega (arith, w.entries, later);
}

-- a call, with at least one line
pub within_call : (controller : ℕ) (call : CallValue) (old new : Fold) (n m : ℕ) → n + 1 ≤ m → IsWithin old n → KeepsRest controller call old new → new.replay.monitor.core.ticks ≡ old.replay.monitor.core.ticks → new.replay.drawn ≡ old.replay.drawn → IsWithin new m
within_call controller call old new n m later w rest ticks drawn =
    let passes = ap (λ (c : Lawful). c.passes) rest.counts in
    let loads = ap (λ (c : Lawful). c.loads) rest.counts in
    let hits = ap (λ (c : Lawful). c.hits) rest.counts in
    let few : get_or old.next controller 0 + 1 ≤ n + 1 = omega (arith, calls_within old.next controller n w.next) in
    let next : AllByRecursion (λ k. k ≤ n + 1) new.next =
    subst (AllByRecursion (λ k. k ≤ n + 1)) (sym rest.next) (all_set old.next controller _ (n + 1) few (all_later old.next n (n + 1) (omega arith) w.next))
    in
    within_later new (n + 1) m later
    (within_more old new n w next (ap (λ (a : AheadView). a.pages) rest.ahead) rest.space (omega (arith, ticks)) (omega (arith, drawn)) rest.kept.entries (omega (arith, passes)) (omega (arith, loads)) (omega (arith, hits, loads))
    (omega (arith, rest.open_is, loads)))
