-- The calls of controllers in turn, with one entry more.
use Rattle.std.proofs.Common.{◌≡◌, ℕ, zero, suc, ◌+◌, ◌≤◌, ◌<◌, List, [], ◌∷◌, ◌++◌, length, true, false, refl, sym, ap, ◌∙◌, subst, append_assoc, arith}
use Rattle.std.specs.Prelude.{◌==◌, if◌then◌else◌, slice_index, slice_index_or, slice_set, sum_by}
use Rattle.std.specs.List.{range_with_len}
use Rattle.std.proofs.lemmas.Bool.Decides.{nat_tests}
use Rattle.std.proofs.lemmas.List.{append-nil}
use Rattle.std.proofs.lemmas.List.Sums.{sum_by-cons, sum_by_push}
use Rattle.damon_control.specs.Live.{CallValue, LiveValue}
use Rattle.run_journal.specs.declared.entry.CallAnswer.{CallAnswer}
use Rattle.run_journal.specs.declared.entry.Entry.{Entry}
use Rattle.run_journal.specs.declared.entry.Entry.TheVariants.{Aggregate, Call, Check, Prepare, Void}
use Rattle.std.specs.List.{AllByRecursion}
use Rattle.std.specs.Prelude.{IsSome, slice_get}
use Rattle.damon_live.specs.Plain.{IsPlain}
use Rattle.run_journal.specs.Replay.{JournalValue}
use Rattle.damon_live.specs.Kept.{AreCounts, AreInTurn, calls_made, index_in, indexes}
use Rattle.damon_live.specs.Machine.{call_in, calls_left}

pub indexes_of-snoc : (c : ℕ) (es : List Entry) (e : Entry) → indexes c (es ++ e ∷ []) ≡ indexes c es ++ index_in c e
indexes_of-snoc c [] e = append-nil (index_in c e)
indexes_of-snoc c (x ∷ es) e = ap (λ l. index_in c x ++ l) (indexes_of-snoc c es e) ∙ sym (append_assoc (index_in c x) (indexes c es) (index_in c e))

range-snoc : (from n : ℕ) → range_with_len from n ++ (from + n) ∷ [] ≡ range_with_len from (suc n)
range-snoc from zero = let none : from + 0 ≡ from = omega arith in ap (λ k. k ∷ []) none
range-snoc from (suc n) = let next : from + suc n ≡ from + 1 + n = omega arith in ap (λ k. from ∷ (range_with_len (from + 1) n ++ k ∷ [])) next ∙ ap (λ l. from ∷ l) (range-snoc (from + 1) n)

-- an entry that is no call
pub record IsNoCall (e : Entry) : Type 0 where
  pub none : call_in e ≡ 0
  pub no_index : (c : ℕ) → index_in c e ≡ []

pub turns_kept : (v : LiveValue) (es : List Entry) (e : Entry) (counts : List ℕ) → IsNoCall e → AreInTurn v es counts → AreInTurn v (es ++ e ∷ []) counts
turns_kept v es e counts plain turns = record {
  each = λ c. indexes_of-snoc c es e ∙ (ap (λ l. indexes c es ++ l) (plain.no_index c) ∙ (append-nil (indexes c es) ∙ turns.each c));
  within = turns.within;
  all = sum_by_push call_in es e ∙ (ap (λ n. sum_by call_in es + n) plain.none ∙ omega (arith, turns.all));
  few = turns.few;
}

-- a call of a controller that has one left
left_over : (ls : List (List CallValue)) (ns : List ℕ) (c : ℕ) → AreCounts ls ns → slice_index ns c < length (slice_index_or ls c []) → sum_by (λ n. n) ns < sum_by length ls
left_over [] [] c within below = absurd (omega (arith, below))
left_over [] (n ∷ ns) c within below = absurd within
left_over (l ∷ ls) [] c within below = absurd within
left_over (l ∷ ls) (n ∷ ns) zero within below = omega (arith, below, sum_by-cons (λ (k : ℕ). k) n ns, sum_by-cons (λ (k : List CallValue). length k) l ls, all_less ls ns within.1)
  where
    all_less : (ls : List (List CallValue)) (ns : List ℕ) → AreCounts ls ns → sum_by (λ n. n) ns ≤ sum_by length ls
    all_less [] [] within = omega arith
    all_less [] (n ∷ ns) within = absurd within
    all_less (l ∷ ls) [] within = absurd within
    all_less (l ∷ ls) (n ∷ ns) within = omega (arith, within.0, sum_by-cons (λ (k : ℕ). k) n ns, sum_by-cons (λ (k : List CallValue). length k) l ls, all_less ls ns within.1)
left_over (l ∷ ls) (n ∷ ns) (suc c) within below = omega (arith, within.0, sum_by-cons (λ (k : ℕ). k) n ns, sum_by-cons (λ (k : List CallValue). length k) l ls, left_over ls ns c within.1 below)

pub calls_are_left : (v : LiveValue) (es : List Entry) (counts : List ℕ) (c : ℕ) → AreInTurn v es counts → slice_index counts c < length (slice_index_or v.controllers c []) → 0 < calls_left v es
calls_are_left v es counts c turns below = omega (arith, turns.all, left_over v.controllers counts c turns.within below)

counts_next : (ls : List (List CallValue)) (ns : List ℕ) (c : ℕ) → AreCounts ls ns → slice_index ns c < length (slice_index_or ls c []) → AreCounts ls (slice_set ns c (slice_index ns c + 1)) × (sum_by (λ n. n) (slice_set ns c (slice_index ns c + 1)) ≡ sum_by (λ n. n) ns + 1)
counts_next [] [] c within below = absurd (omega (arith, below))
counts_next [] (n ∷ ns) c within below = absurd within
counts_next (l ∷ ls) [] c within below = absurd within
counts_next (l ∷ ls) (n ∷ ns) zero within below = ((omega (arith, below), within.1), sum_by-cons (λ (k : ℕ). k) (n + 1) ns ∙ omega (arith, sum_by-cons (λ (k : ℕ). k) n ns))
counts_next (l ∷ ls) (n ∷ ns) (suc c) within below =
    let rest = counts_next ls ns c within.1 below in
    ((within.0, rest.0), sum_by-cons (λ (k : ℕ). k) n (slice_set ns c (slice_index ns c + 1)) ∙ omega (arith, rest.1, sum_by-cons (λ (k : ℕ). k) n ns))

index_set : (ls : List (List CallValue)) (ns : List ℕ) (c d k : ℕ) → AreCounts ls ns → c < length ls → slice_index (slice_set ns c k) d ≡ (if c == d then k else slice_index ns d)
index_set [] ns c d k within below = absurd (omega (arith, below))
index_set (l ∷ ls) [] c d k within below = absurd within
index_set (l ∷ ls) (n ∷ ns) zero zero k within below = refl
index_set (l ∷ ls) (n ∷ ns) zero (suc d) k within below = let e : (0 == suc d) ≡ false = grind (arith, nat_tests) in ap (λ b. if b then k else slice_index ns d) (sym e)
index_set (l ∷ ls) (n ∷ ns) (suc c) zero k within below = let e : (suc c == 0) ≡ false = grind (arith, nat_tests) in ap (λ b. if b then k else n) (sym e)
index_set (l ∷ ls) (n ∷ ns) (suc c) (suc d) k within below = index_set ls ns c d k within.1 (omega (arith, below)) ∙ ap (λ b. if b then k else slice_index ns d) (same_test c d)
  where
    same_test : (a b : ℕ) → (a == b) ≡ (suc a == suc b)
    same_test a b = grind (arith, nat_tests)

pub has_list : (ls : List (List CallValue)) (c n : ℕ) → n < length (slice_index_or ls c []) → c < length ls
has_list [] c n below = absurd (omega (arith, below))
has_list (l ∷ ls) zero n below = omega arith
has_list (l ∷ ls) (suc c) n below = omega (arith, has_list ls c n below)

pub turns_called : (v : LiveValue) (es : List Entry) (counts : List ℕ) (c index : ℕ) (answer : CallAnswer) → AreInTurn v es counts → index ≡ slice_index counts c → index < length (slice_index_or v.controllers c []) → AreInTurn v (es ++ Call c index answer ∷ []) (slice_set counts c (index + 1))
turns_called v es counts c index answer turns is below =
    let n : ℕ = slice_index counts c in
    let low : n < length (slice_index_or v.controllers c []) = omega (arith, is, below) in
    let next = counts_next v.controllers counts c turns.within low in
    let same : slice_set counts c (index + 1) ≡ slice_set counts c (n + 1) = ap (λ k. slice_set counts c (k + 1)) is in
    record {
      each = λ d. indexes_of-snoc d es (Call c index answer) ∙ (ap (λ l. l ++ index_in d (Call c index answer)) (turns.each d) ∙ (by_test d (c == d) refl ∙ ap (range_with_len 0) (sym (index_set v.controllers counts c d (index + 1) turns.within (has_list v.controllers c index below)))));
      within = subst (AreCounts v.controllers) (sym same) next.0;
      all = sum_by_push call_in es (Call c index answer) ∙ (omega (arith, turns.all, next.1) ∙ ap (sum_by (λ n. n)) (sym same));
      few = turns.few;
    }
  where
    zero_more : (k : ℕ) → k ≡ 0 + k
    zero_more k = omega arith

    by_test : (d : ℕ) (b : _) → (c == d) ≡ b → range_with_len 0 (slice_index counts d) ++ (if c == d then index ∷ [] else []) ≡ range_with_len 0 (if c == d then index + 1 else slice_index counts d)
    by_test d true here =
        let e : c ≡ d = grind (arith, nat_tests) in
        let count : slice_index counts d ≡ index = ap (slice_index counts) (sym e) ∙ sym is in
        let more : suc index ≡ index + 1 = omega arith in
        ap (λ x. range_with_len 0 (slice_index counts d) ++ (if x then index ∷ [] else [])) here
        ∙ (ap (λ k. range_with_len 0 k ++ index ∷ []) count
        ∙ (ap (λ k. range_with_len 0 index ++ k ∷ []) (zero_more index) ∙ range-snoc 0 index ∙ (ap (range_with_len 0) more ∙ ap (λ x. range_with_len 0 (if x then index + 1 else slice_index counts d)) (sym here))))
    by_test d false there =
        ap (λ x. range_with_len 0 (slice_index counts d) ++ (if x then index ∷ [] else [])) there
        ∙ (append-nil (range_with_len 0 (slice_index counts d)) ∙ ap (λ x. range_with_len 0 (if x then index + 1 else slice_index counts d)) (sym there))

is_plain : (e : Entry) → IsPlain e → IsNoCall e
is_plain (Prepare pass pos) plain = absurd plain
is_plain (Check pass) plain = record { none = refl; no_index = λ c. refl }
is_plain (Void pass) plain = record { none = refl; no_index = λ c. refl }
is_plain (Aggregate tick pos) plain = record { none = refl; no_index = λ c. refl }
is_plain (Call controller index answer) plain = absurd plain

-- entries that end a pass, and more of them
pub plain_more : (es fs : List Entry) → AllByRecursion IsPlain es → AllByRecursion IsPlain fs → AllByRecursion IsPlain (es ++ fs)
plain_more [] fs plain more = more
plain_more (e ∷ es) fs plain more = (plain.0, plain_more es fs plain.1 more)

pub turns_more : (v : LiveValue) (added es : List Entry) (counts : List ℕ) → AllByRecursion IsPlain added → AreInTurn v es counts → AreInTurn v (es ++ added) counts
turns_more v [] es counts plain turns = subst (λ l. AreInTurn v l counts) (sym (append-nil es)) turns
turns_more v (e ∷ added) es counts plain turns = subst (λ l. AreInTurn v l counts) (append_assoc es (e ∷ []) added) (turns_more v added (es ++ e ∷ []) counts plain.1 (turns_kept v es e counts (is_plain e plain.0) turns))

pub counts_len : (ls : List (List CallValue)) (ns : List ℕ) → AreCounts ls ns → length ns ≡ length ls
counts_len [] [] within = refl
counts_len [] (n ∷ ns) within = absurd within
counts_len (l ∷ ls) [] within = absurd within
counts_len (l ∷ ls) (n ∷ ns) within = ap suc (counts_len ls ns within.1)

length-range : (from n : ℕ) → length (range_with_len from n) ≡ n
length-range from zero = refl
length-range from (suc n) = ap suc (length-range (from + 1) n)

-- how many calls a controller made, by its count
pub made_is : (v : LiveValue) (es : List Entry) (counts : List ℕ) (c : ℕ) → AreInTurn v es counts → length (indexes c es) ≡ slice_index counts c
made_is v es counts c turns = ap length (turns.each c) ∙ length-range 0 (slice_index counts c)

-- the count of a controller is that of the calls that it made
pub count_is : (v : LiveValue) (j now : JournalValue) (counts read : List ℕ) (c n : ℕ) → AreInTurn v j.entries counts → j ≡ now → read ≡ counts → n ≡ slice_index read c → n ≡ calls_made c now
count_is v j now counts read c n turns same lent is =
    is ∙ (ap (λ l. slice_index l c) lent ∙ (sym (made_is v j.entries counts c turns) ∙ ap (calls_made c) same))

pub some_below : (xs : List CallValue) (i : ℕ) → i < length xs → IsSome (slice_get xs i)
some_below [] i below = absurd (omega (arith, below))
some_below (x ∷ xs) zero below = refl
some_below (x ∷ xs) (suc i) below = some_below xs i (omega (arith, below))

pub list_few : (ls : List (List CallValue)) (c : ℕ) → length (slice_index_or ls c []) ≤ sum_by length ls
list_few [] c = omega arith
list_few (l ∷ ls) zero = omega (arith, sum_by-cons (λ (k : List CallValue). length k) l ls)
list_few (l ∷ ls) (suc c) = omega (arith, list_few ls c, sum_by-cons (λ (k : List CallValue). length k) l ls)
