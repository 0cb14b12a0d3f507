-- Calls that are made where no pass is under way.
use Rattle.std.proofs.Common.{◌≡◌, ◌⊎◌, inl, inr, ⊎_elim, ℕ, zero, suc, ◌+◌, ◌≤◌, ◌<◌, true, List, [], ◌∷◌, length, refl, sym, ap, ◌∙◌, subst, length-append, arith}
use Rattle.std.specs.Prelude.{◌==◌, if◌then◌else◌, replicate, slice_index, slice_index_or, sum_by}
use Rattle.std.specs.List.{range_with_len}
use Rattle.std.proofs.lemmas.Bool.Decides.{nat_tests}
use Rattle.std.proofs.lemmas.List.Sums.{sum_by-cons}
use Rattle.live_commit.specs.declared.phase.Phase.{Phase}
use Rattle.live_commit.specs.declared.phase.Phase.TheVariants.{Idle, Clearing, Armed, Checking, Void, Due}
use Rattle.damon_control.specs.Live.{CallValue, LiveValue, count_all}
use Rattle.damon_control.specs.declared.live.TheConstants.{MAX_CALLS}
use Rattle.run_journal.specs.declared.entry.CallAnswer.{CallAnswer}
use Rattle.run_journal.specs.declared.entry.Entry.{Entry}
use Rattle.run_journal.specs.declared.entry.Entry.TheVariants.{Call}
use Rattle.run_journal.specs.Phases.{IsFree, passes_open}
use Rattle.run_journal.specs.Replay.{JournalValue}
use Rattle.damon_live.specs.Kept.{AreCounts, AreInTurn, CallsAreInOrder, calls_asked, calls_made, index_in, indexes}
use Rattle.damon_live.specs.Machine.{call_in, with_one}
use Rattle.damon_live.proofs.Turns.{indexes_of-snoc, made_is}

pub idle_kept : (ph : Phase) → IsFree ph → passes_open ph ≡ 0 → ph ≡ Idle
idle_kept Idle free none = refl
idle_kept Armed free none = absurd (omega (arith, none))
idle_kept Void free none = absurd (omega (arith, none))
idle_kept (Clearing k) free none = absurd free
idle_kept (Checking k) free none = absurd free
idle_kept Due free none = absurd free

longer_by : (c : ℕ) (j new : JournalValue) (e : Entry) → new ≡ with_one e j → calls_made c new ≡ calls_made c j + length (index_in c e)
longer_by c j new e is = ap (calls_made c) is ∙ (ap length (indexes_of-snoc c j.entries e) ∙ length-append (indexes c j.entries) (index_in c e))

-- one entry more takes no call away
pub more_made : (c : ℕ) (j new : JournalValue) (e : Entry) → new ≡ with_one e j → calls_made c j ≤ calls_made c new
more_made c j new e is = omega (arith, longer_by c j new e is)

-- a call is one more of its controller
pub one_made : (c index : ℕ) (answer : CallAnswer) (j new : JournalValue) → new ≡ with_one (Call c index answer) j → calls_made c new ≡ calls_made c j + 1
one_made c index answer j new is =
    let here : (c == c) ≡ true = grind (arith, nat_tests) in
    longer_by c j new (Call c index answer) is ∙ ap (λ b. calls_made c j + length (if b then index ∷ [] else [])) here

-- a controller that is not there has no call
pub none_asked : (ls : List (List CallValue)) (c : ℕ) → length ls ≤ c → length (slice_index_or ls c []) ≡ 0
none_asked [] c past = refl
none_asked (l ∷ ls) zero past = absurd (omega (arith, past))
none_asked (l ∷ ls) (suc c) past = none_asked ls c (omega (arith, past))

-- before the first call
pub no_counts : (ls : List (List CallValue)) → AreCounts ls (replicate (length ls) 0)
no_counts [] = tt
no_counts (l ∷ ls) = (omega arith, no_counts ls)

pub count_zero : (n c : ℕ) → slice_index (replicate n 0) c ≡ 0
count_zero zero c = refl
count_zero (suc n) zero = refl
count_zero (suc n) (suc c) = count_zero n c

pub sum_zero : (n : ℕ) → sum_by (λ (k : ℕ). k) (replicate n 0) ≡ 0
sum_zero zero = refl
sum_zero (suc n) = omega (arith, sum_by-cons (λ (k : ℕ). k) 0 (replicate n 0), sum_zero n)

-- the counts before the first call
pub turns_begun : (v : LiveValue) (es : List Entry) (n : ℕ) → es ≡ [] → n ≡ length v.controllers → count_all v.controllers ≤ MAX_CALLS → AreInTurn v es (replicate n 0)
turns_begun v es n none size few = record {
  each = λ c. ap (indexes c) none ∙ sym (ap (range_with_len 0) (count_zero n c));
  within = subst (λ k. AreCounts v.controllers (replicate k 0)) (sym size) (no_counts v.controllers);
  all = ap (sum_by call_in) none ∙ sym (sum_zero n);
  few = few;
}

count_within : (ls : List (List CallValue)) (ns : List ℕ) (c : ℕ) → AreCounts ls ns → slice_index ns c ≤ length (slice_index_or ls c [])
count_within [] [] c within = omega arith
count_within [] (n ∷ ns) c within = absurd within
count_within (l ∷ ls) [] c within = absurd within
count_within (l ∷ ls) (n ∷ ns) zero within = within.0
count_within (l ∷ ls) (n ∷ ns) (suc c) within = count_within ls ns c within.1

pub in_order : (v : LiveValue) (j : JournalValue) (counts : List ℕ) → AreInTurn v j.entries counts → CallsAreInOrder v j
in_order v j counts turns c =
    let made = made_is v j.entries counts c turns in
    (turns.each c ∙ ap (range_with_len 0) (sym made), omega (arith, made, count_within v.controllers counts c turns.within))

split : (c n : ℕ) → (c < n) ⊎ (n ≤ c)
split c zero = inr (omega arith)
split zero (suc n) = inl (omega arith)
split (suc c) (suc n) = ⊎_elim (λ (l : c < n). inl (omega (arith, l))) (λ (h : n ≤ c). inr (omega (arith, h))) (split c n)

-- the calls of one controller more are made
pub asked_more : (v : LiveValue) (j new : JournalValue) (k : ℕ) → ((c : ℕ) → c < k → calls_asked c v ≤ calls_made c j) → ((c : ℕ) → calls_made c j ≤ calls_made c new) → calls_asked k v ≤ calls_made k new → (c : ℕ) → c < k + 1 → calls_asked c v ≤ calls_made c new
asked_more v j new k below more here c l = ⊎_elim
    (λ (s : c < k). omega (arith, below c s, more c))
    (λ (h : k ≤ c). let e : k ≡ c = omega (arith, h, l) in subst (λ n. calls_asked n v ≤ calls_made n new) e here)
    (split c k)

-- the calls of all controllers are made
pub all_asked : (v : LiveValue) (j : JournalValue) (n : ℕ) → length v.controllers ≤ n → ((c : ℕ) → c < n → calls_asked c v ≤ calls_made c j) → (c : ℕ) → calls_asked c v ≤ calls_made c j
all_asked v j n all below c = ⊎_elim
    (λ (s : c < n). below c s)
    (λ (h : n ≤ c). omega (arith, none_asked v.controllers c (omega (arith, all, h))))
    (split c n)
