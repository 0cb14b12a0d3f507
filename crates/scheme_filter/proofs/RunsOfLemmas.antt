-- Runs that are found page by page are the longest runs, and no others are; they have as many pages as pass.
use Rattle.std.proofs.Common.{◌≡◌, ◌⊎◌, inl, inr, ℕ, zero, suc, ◌+◌, ◌-◌, ◌<◌, ◌≤◌, Bool, true, false, cond, List, [], ◌∷◌, length, refl, sym, ap, ◌∙◌, subst, arith}
use Rattle.std.specs.Prelude.{slice_index_or, ◌||◌, ◌==◌, All, AllPairs, sum_by, count_by, if◌then◌else◌}
use Rattle.std.specs.List.{list_any, range_with_len}
use Rattle.std.proofs.lemmas.Bool.{cases_lt}
use Rattle.std.proofs.lemmas.Bool.Decides.{nat_tests}
use Rattle.std.proofs.lemmas.List.Elements.{All-cons, All-nil}
use Rattle.std.proofs.lemmas.List.Folds.{list_any_at}
use Rattle.std.proofs.lemmas.List.Sums.{sum_by-cons}
use Rattle.scheme_filter.specs.declared.runs.Run.{Run}
use Rattle.scheme_filter.specs.Runs.{run_end, run_holds, AreLongest, with_page, runs_of}
use Rattle.scheme_filter.proofs.LongestLemmas.{all_weaker, all_later, after_first, rest_apart, apart_cons, other_first, longest_none}

-- the first page does not pass
first_fails : (passes : ℕ → Bool) (page to : ℕ) (runs : List Run) → page < to → passes page ≡ false → AreLongest passes page to runs → AreLongest passes (page + 1) to runs
first_fails passes page to runs less fails longest = record {
  exact = λ p low high. longest.exact p (omega (arith, low)) high;
  some = longest.some;
  within = λ k d inside. (by k d inside (cases_lt page (slice_index_or runs k d).start), (longest.within k d inside).1);
  apart = longest.apart;
}
  where
    by : (k : ℕ) (d : Run) → k < length runs → (page < (slice_index_or runs k d).start) ⊎ ((slice_index_or runs k d).start ≤ page) → page + 1 ≤ (slice_index_or runs k d).start
    by k d inside (inl later) = omega (arith, later)
    by k d inside (inr here) =
        let some = longest.some k d inside in
        let from = (longest.within k d inside).0 in
        let holds : run_holds page (slice_index_or runs k d) ≡ true = grind (arith, nat_tests) in
        let any = list_any_at (run_holds page) runs k d inside holds in
        let not = longest.exact page (omega arith) less ∙ fails in
        absurd (let same : true ≡ false = sym any ∙ not in cc same)

-- the first page passes, so a run begins there
first_begins : (passes : ℕ → Bool) (page to : ℕ) (r : Run) (rs : List Run) → page < to → passes page ≡ true → AreLongest passes page to (r ∷ rs) → r.start ≡ page
first_begins passes page to r rs less holds longest = by (cases_lt page r.start)
  where
    by : (page < r.start) ⊎ (r.start ≤ page) → r.start ≡ page
    by (inr here) = omega (arith, here, (longest.within 0 r (omega arith)).0)
    by (inl later) =
        let others : All (λ s. page < s.start) rs = λ k d inside. omega (arith, later, after_first r rs longest.apart k d inside) in
        let none = all_later page (r ∷ rs) (All-cons (λ (s : Run). page < s.start) r rs later others) in
        absurd (let same : true ≡ false = sym (longest.exact page (omega arith) less ∙ holds) ∙ none in cc same)

-- the runs after the first page, where the first run has no other page
one_page : (passes : ℕ → Bool) (page to : ℕ) (r : Run) (rs : List Run) → r.start ≡ page → r.pages ≡ 1 → AreLongest passes page to (r ∷ rs) → AreLongest passes (page + 1) to rs
one_page passes page to r rs start one longest = record {
  exact = λ p low high.
      let not : run_holds p r ≡ false = grind (arith, nat_tests) in
      sym (ap (λ v. v || list_any (run_holds p) rs) not) ∙ longest.exact p (omega (arith, low)) high;
  some = λ k d inside. longest.some (suc k) d (omega (arith, inside));
  within = λ k d inside. (omega (arith, start, one, after_first r rs longest.apart k d inside), (longest.within (suc k) d (omega (arith, inside))).1);
  apart = rest_apart r rs longest.apart;
}

-- and where it has some
more_pages : (passes : ℕ → Bool) (page to : ℕ) (r : Run) (rs : List Run) → r.start ≡ page → 1 < r.pages → AreLongest passes page to (r ∷ rs) → AreLongest passes (page + 1) to (record { start = page + 1; pages = r.pages - 1 } ∷ rs)
more_pages passes page to r rs start some longest = record {
  exact = λ p low high.
      let same : run_holds p short ≡ run_holds p r = grind (arith, nat_tests) in
      ap (λ v. v || list_any (run_holds p) rs) same ∙ longest.exact p (omega (arith, low)) high;
  some = All-cons (λ (s : Run). 1 ≤ s.pages) short rs (omega (arith, some)) (λ k d inside. longest.some (suc k) d (omega (arith, inside)));
  within = All-cons (λ (s : Run). (page + 1 ≤ s.start) × (run_end s ≤ to)) short rs (omega arith, omega (arith, start, some, (longest.within 0 r (omega arith)).1)) (λ k d inside. (omega (arith, start, some, after_first r rs longest.apart k d inside), (longest.within (suc k) d (omega (arith, inside))).1));
  apart = other_first r short rs (omega (arith, start, some)) longest.apart;
}
  where
    short : Run
    short = record { start = page + 1; pages = r.pages - 1 }

-- a page before runs that begin after the next page
with_page-apart : (page : ℕ) (rs : List Run) → All (λ s. page + 1 < s.start) rs → with_page page rs ≡ record { start = page; pages = 1 } ∷ rs
with_page-apart page [] later = refl
with_page-apart page (s ∷ rs) later =
    let past = later 0 s (omega arith) in
    let test : (s.start == page + 1) ≡ false = grind (arith, nat_tests) in
    ap (λ v. if v then record { start = page; pages = s.pages + 1 } ∷ rs else record { start = page; pages = 1 } ∷ s ∷ rs) test

-- a page before a run that begins at the next page
with_page-joined : (page : ℕ) (s : Run) (rs : List Run) → s.start ≡ page + 1 → with_page page (s ∷ rs) ≡ record { start = page; pages = s.pages + 1 } ∷ rs
with_page-joined page s rs start =
    let test : (s.start == page + 1) ≡ true = grind (arith, nat_tests) in
    ap (λ v. if v then record { start = page; pages = s.pages + 1 } ∷ rs else record { start = page; pages = 1 } ∷ s ∷ rs) test

-- longest runs are those that are found page by page
pub longest_is : (passes : ℕ → Bool) (n page : ℕ) (runs : List Run) → AreLongest passes page (page + n) runs → runs ≡ runs_of passes page n
longest_is passes zero page [] longest = refl
longest_is passes zero page (r ∷ rs) longest = absurd (omega (arith, longest.some 0 r (omega arith), (longest.within 0 r (omega arith)).0, (longest.within 0 r (omega arith)).1))
longest_is passes (suc n) page runs longest =
    by (passes page) refl runs (subst (λ to. AreLongest passes page to runs) (omega arith) longest) (λ others. longest_is passes n (page + 1) others)
  where
    at_first : (r : Run) (rs : List Run) → r.start ≡ page → AreLongest passes page (page + 1 + n) (r ∷ rs) → ((others : List Run) → AreLongest passes (page + 1) (page + 1 + n) others → others ≡ runs_of passes (page + 1) n) → (1 < r.pages) ⊎ (r.pages ≤ 1) → r ∷ rs ≡ with_page page (runs_of passes (page + 1) n)
    at_first r rs start longest rest (inl some) =
        let s : Run = record { start = page + 1; pages = r.pages - 1 } in
        let joined = with_page-joined page s rs refl in
        let pages : r.pages - 1 + 1 ≡ r.pages = omega (arith, some) in
        ap (λ m. record { start = m; pages = r.pages } ∷ rs) start
        ∙ ap (λ m. record { start = page; pages = m } ∷ rs) (sym pages)
        ∙ sym joined
        ∙ ap (with_page page) (rest (s ∷ rs) (more_pages passes page (page + 1 + n) r rs start some longest))
    at_first r rs start longest rest (inr few) =
        let one : r.pages ≡ 1 = omega (arith, few, longest.some 0 r (omega arith)) in
        let later : All (λ s. page + 1 < s.start) rs = λ k d inside. omega (arith, start, one, after_first r rs longest.apart k d inside) in
        ap (λ m. record { start = m; pages = r.pages } ∷ rs) start
        ∙ ap (λ m. record { start = page; pages = m } ∷ rs) one
        ∙ sym (with_page-apart page rs later)
        ∙ ap (with_page page) (rest rs (one_page passes page (page + 1 + n) r rs start one longest))

    by : (v : Bool) → passes page ≡ v → (runs : List Run) → AreLongest passes page (page + 1 + n) runs → ((others : List Run) → AreLongest passes (page + 1) (page + 1 + n) others → others ≡ runs_of passes (page + 1) n) → runs ≡ (if v then with_page page (runs_of passes (page + 1) n) else runs_of passes (page + 1) n)
    by false fails runs longest rest = rest runs (first_fails passes page (page + 1 + n) runs (omega arith) fails longest)
    by true holds [] longest rest = absurd (let same : true ≡ false = sym (longest.exact page (omega arith) (omega arith) ∙ holds) in cc same)
    by true holds (r ∷ rs) longest rest = at_first r rs (first_begins passes page (page + 1 + n) r rs (omega arith) holds longest) longest rest (cases_lt 1 r.pages)

all_after : (passes : ℕ → Bool) (page to : ℕ) (runs : List Run) → AreLongest passes (page + 1) to runs → All (λ r. page < r.start) runs
all_after passes page to runs longest k d inside = omega (arith, (longest.within k d inside).0)

within_more : (page to : ℕ) (runs : List Run) → All (λ r. (page + 1 ≤ r.start) × (run_end r ≤ to)) runs → All (λ r. (page ≤ r.start) × (run_end r ≤ to)) runs
within_more page to runs within = all_weaker (λ r. (page + 1 ≤ r.start) × (run_end r ≤ to)) (λ r. (page ≤ r.start) × (run_end r ≤ to)) runs (λ r both. (omega (arith, both.0), both.1)) within

-- a page that does not pass, before the longest runs of the pages after it
longest_fails : (passes : ℕ → Bool) (page to : ℕ) (runs : List Run) → passes page ≡ false → AreLongest passes (page + 1) to runs → AreLongest passes page to runs
longest_fails passes page to runs fails longest = record {
  exact = λ p low high. by p low high (cases_lt page p);
  some = longest.some;
  within = within_more page to runs longest.within;
  apart = longest.apart;
}
  where
    by : (p : ℕ) → page ≤ p → p < to → (page < p) ⊎ (p ≤ page) → list_any (run_holds p) runs ≡ passes p
    by p low high (inl later) = longest.exact p (omega (arith, later)) high
    by p low high (inr first) =
        let is : page ≡ p = omega (arith, first, low) in
        subst (λ n. list_any (run_holds n) runs ≡ passes n) is (all_later page runs (all_after passes page to runs longest) ∙ sym fails)

-- a page that passes: a first run that begins there and ends where the runs after the page leave off
longest_cons : (passes : ℕ → Bool) (page to : ℕ) (s : Run) (rs : List Run) → passes page ≡ true → s.start ≡ page → 1 ≤ s.pages → run_end s ≤ to → AllPairs (λ q t. run_end q < t.start) (s ∷ rs) → All (λ r. 1 ≤ r.pages) rs → All (λ r. (page + 1 ≤ r.start) × (run_end r ≤ to)) rs → ((p : ℕ) → page + 1 ≤ p → p < to → list_any (run_holds p) (s ∷ rs) ≡ passes p) → AreLongest passes page to (s ∷ rs)
longest_cons passes page to s rs holds start pages end apart some within exact = record {
  exact = λ p low high. by p low high (cases_lt page p);
  some = All-cons (λ (r : Run). 1 ≤ r.pages) s rs pages some;
  within = All-cons (λ (r : Run). (page ≤ r.start) × (run_end r ≤ to)) s rs (omega (arith, start), end) (within_more page to rs within);
  apart = apart;
}
  where
    by : (p : ℕ) → page ≤ p → p < to → (page < p) ⊎ (p ≤ page) → list_any (run_holds p) (s ∷ rs) ≡ passes p
    by p low high (inl later) = exact p (omega (arith, later)) high
    by p low high (inr first) =
        let is : page ≡ p = omega (arith, first, low) in
        let here : run_holds page s ≡ true = grind (arith, nat_tests) in
        subst (λ n. list_any (run_holds n) (s ∷ rs) ≡ passes n) is (ap (λ v. v || list_any (run_holds page) rs) here ∙ sym holds)

-- the page is a run of its own
longest_alone : (passes : ℕ → Bool) (page to : ℕ) (runs : List Run) → page < to → passes page ≡ true → All (λ t. page + 1 < t.start) runs → AreLongest passes (page + 1) to runs → AreLongest passes page to (record { start = page; pages = 1 } ∷ runs)
longest_alone passes page to runs less holds later longest =
    longest_cons passes page to s runs holds refl (omega arith) (omega (arith, less)) (apart_cons s runs later longest.apart) longest.some longest.within
    (λ p low high. let not : run_holds p s ≡ false = grind (arith, nat_tests) in ap (λ v. v || list_any (run_holds p) runs) not ∙ longest.exact p low high)
  where
    s : Run
    s = record { start = page; pages = 1 }

-- or it lengthens the first run
longest_joined : (passes : ℕ → Bool) (page to : ℕ) (r : Run) (rs : List Run) → passes page ≡ true → r.start ≡ page + 1 → AreLongest passes (page + 1) to (r ∷ rs) → AreLongest passes page to (record { start = page; pages = r.pages + 1 } ∷ rs)
longest_joined passes page to r rs holds start longest =
    longest_cons passes page to s rs holds refl (omega arith) (omega (arith, start, (longest.within 0 r (omega arith)).1)) (other_first r s rs (omega (arith, start)) longest.apart) (λ k d inside. longest.some (suc k) d (omega (arith, inside))) (λ k d inside. longest.within (suc k) d (omega (arith, inside)))
    (λ p low high. let same : run_holds p s ≡ run_holds p r = grind (arith, nat_tests) in ap (λ v. v || list_any (run_holds p) rs) same ∙ longest.exact p low high)
  where
    s : Run
    s = record { start = page; pages = r.pages + 1 }

longest_with_page : (passes : ℕ → Bool) (page to : ℕ) (runs : List Run) → page < to → passes page ≡ true → AreLongest passes (page + 1) to runs → AreLongest passes page to (with_page page runs)
longest_with_page passes page to [] less holds longest = longest_alone passes page to [] less holds (All-nil (λ (t : Run). page + 1 < t.start)) longest
longest_with_page passes page to (r ∷ rs) less holds longest = by (r.start == page + 1) refl
  where
    by : (v : Bool) → (r.start == page + 1) ≡ v → AreLongest passes page to (if v then record { start = page; pages = r.pages + 1 } ∷ rs else record { start = page; pages = 1 } ∷ r ∷ rs)
    by true is = longest_joined passes page to r rs holds (grind (arith, nat_tests)) longest
    by false is =
        let low = (longest.within 0 r (omega arith)).0 in
        let apart : page + 1 < r.start = grind (arith, nat_tests) in
        longest_alone passes page to (r ∷ rs) less holds (All-cons (λ (t : Run). page + 1 < t.start) r rs apart (λ k d inside. omega (arith, apart, after_first r rs longest.apart k d inside))) longest

-- runs that are found page by page are the longest
pub runs_of-longest : (passes : ℕ → Bool) (n page : ℕ) → AreLongest passes page (page + n) (runs_of passes page n)
runs_of-longest passes zero page = longest_none passes page (page + 0) (λ p low high. absurd (omega (arith, low, high)))
runs_of-longest passes (suc n) page = by (passes page) refl (subst (λ to. AreLongest passes (page + 1) to (runs_of passes (page + 1) n)) (omega arith) (runs_of-longest passes n (page + 1)))
  where
    by : (v : Bool) → passes page ≡ v → AreLongest passes (page + 1) (page + suc n) (runs_of passes (page + 1) n) → AreLongest passes page (page + suc n) (if v then with_page page (runs_of passes (page + 1) n) else runs_of passes (page + 1) n)
    by true is rest = longest_with_page passes page (page + suc n) (runs_of passes (page + 1) n) (omega arith) is rest
    by false is rest = longest_fails passes page (page + suc n) (runs_of passes (page + 1) n) is rest

-- one page more
with_page-pages : (page : ℕ) (rs : List Run) → sum_by (λ r. r.pages) (with_page page rs) ≡ 1 + sum_by (λ r. r.pages) rs
with_page-pages page [] = refl
with_page-pages page (r ∷ rs) = by (r.start == page + 1)
  where
    by : (v : Bool) → sum_by (λ r. r.pages) (if v then record { start = page; pages = r.pages + 1 } ∷ rs else record { start = page; pages = 1 } ∷ r ∷ rs) ≡ 1 + sum_by (λ r. r.pages) (r ∷ rs)
    by true = omega (arith, sum_by-cons (λ (s : Run). s.pages) (record { start = page; pages = r.pages + 1 }) rs, sum_by-cons (λ (s : Run). s.pages) r rs)
    by false = omega (arith, sum_by-cons (λ (s : Run). s.pages) (record { start = page; pages = 1 }) (r ∷ rs))

-- the runs have as many pages as pass
pub runs_of-pages : (passes : ℕ → Bool) (n page : ℕ) → sum_by (λ r. r.pages) (runs_of passes page n) ≡ count_by passes (range_with_len page n)
runs_of-pages passes zero page = refl
runs_of-pages passes (suc n) page = by (passes page) refl (runs_of-pages passes n (page + 1))
  where
    by : (v : Bool) → passes page ≡ v → sum_by (λ r. r.pages) (runs_of passes (page + 1) n) ≡ count_by passes (range_with_len (page + 1) n) → sum_by (λ r. r.pages) (if v then with_page page (runs_of passes (page + 1) n) else runs_of passes (page + 1) n) ≡ count_by passes (range_with_len page (suc n))
    by true is rest = omega (arith, with_page-pages page (runs_of passes (page + 1) n), rest, sum_by-cons (λ p. cond (passes p) 1 0) page (range_with_len (page + 1) n), ap {B = ℕ} (λ v. cond v 1 0) is)
    by false is rest = omega (arith, rest, sum_by-cons (λ p. cond (passes p) 1 0) page (range_with_len (page + 1) n), ap {B = ℕ} (λ v. cond v 1 0) is)

-- and no more than there are
pub runs_of-few : (passes : ℕ → Bool) (n page : ℕ) → sum_by (λ r. r.pages) (runs_of passes page n) ≤ n
runs_of-few passes zero page = omega arith
runs_of-few passes (suc n) page = by (passes page) (runs_of-few passes n (page + 1))
  where
    by : (v : Bool) → sum_by (λ r. r.pages) (runs_of passes (page + 1) n) ≤ n → sum_by (λ r. r.pages) (if v then with_page page (runs_of passes (page + 1) n) else runs_of passes (page + 1) n) ≤ suc n
    by true rest = omega (arith, with_page-pages page (runs_of passes (page + 1) n), rest)
    by false rest = omega (arith, rest)
