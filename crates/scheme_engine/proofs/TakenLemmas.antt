-- The first pages of runs are the runs of the first passing pages.
use Rattle.std.proofs.Common.{◌≡◌, ℕ, zero, suc, ◌+◌, ◌-◌, ◌≤◌, ◌<◌, min, None, Bool, true, false, List, [], ◌∷◌, take, ◌++◌, map, drop, length, get_or, append_assoc, refl, sym, ap, ◌∙◌, arith}
use Rattle.std.specs.Prelude.{◌==◌, sum_by, filter}
use Rattle.std.specs.List.{last_or, list_any, range_with_len}
use Rattle.std.specs.Option.{option_map_or}
use Rattle.std.proofs.lemmas.Bool.Decides.{nat_tests}
use Rattle.std.proofs.lemmas.List.{drop_more}
use Rattle.std.proofs.lemmas.List.FromFn.{length-range_with_len}
use Rattle.std.proofs.lemmas.List.Sums.{sum_by-cons, count_by-le-length, length-filter}
use Rattle.scheme_filter.specs.declared.runs.Run.{Run}
use Rattle.scheme_filter.specs.Runs.{run_end, runs_of, with_page}
use Rattle.scheme_engine.specs.Applying.{first_pages}

-- whether a page is one of these
abbrev pub is_among : List ℕ → ℕ → Bool
is_among pages page = list_any (λ p. p == page) pages

-- the runs of two tests that agree from a page on
runs_agree : (p q : ℕ → Bool) (from k : ℕ) → ((n : ℕ) → from ≤ n → p n ≡ q n) → runs_of p from k ≡ runs_of q from k
runs_agree p q from zero same = refl
runs_agree p q from (suc k) same =
    let rest = runs_agree p q (from + 1) k (λ n after. same n (omega (arith, after))) in
    rw (same from (omega arith), rest) refl

-- no page passes a test that always fails
runs_none : (from k : ℕ) → runs_of (λ p. false) from k ≡ []
runs_none from zero = refl
runs_none from (suc k) = runs_none (from + 1) k

first_none : (rs : List Run) → first_pages 0 rs ≡ []
first_none [] = refl
first_none (r ∷ rs) = refl

-- a page that is taken before others
with_page_first : (page n : ℕ) (rs : List Run) → first_pages (suc n) (with_page page rs) ≡ with_page page (first_pages n rs)
with_page_first page n [] =
    let some : (suc n == 0) ≡ false = grind (arith, nat_tests) in
    let one : min 1 (suc n) ≡ 1 = omega arith in
    rw (some, one) refl
with_page_first page n (r ∷ rs) = by (r.start == page + 1) (n == 0) refl refl
  where
    some : (suc n == 0) ≡ false
    some = grind (arith, nat_tests)

    one : min 1 (suc n) ≡ 1
    one = omega arith

    by : (next none : Bool) → (r.start == page + 1) ≡ next → (n == 0) ≡ none → first_pages (suc n) (with_page page (r ∷ rs)) ≡ with_page page (first_pages n (r ∷ rs))
    by true true next none =
        let zero_n : n ≡ 0 = grind (arith, nat_tests) in
        let all : min (r.pages + 1) (suc n) ≡ 1 = omega arith in
        let left : suc n - (r.pages + 1) ≡ 0 = omega arith in
        rw (next, none, some, all, left, first_none rs) refl
    by true false next none =
        let all : min (r.pages + 1) (suc n) ≡ min r.pages n + 1 = omega arith in
        let left : suc n - (r.pages + 1) ≡ n - r.pages = omega arith in
        rw (next, none, some, all, left, next) refl
    by false true next none =
        let left : suc n - 1 ≡ n = omega arith in
        rw (next, none, some, one, left, none) refl
    by false false next none =
        let left : suc n - 1 ≡ n = omega arith in
        rw (next, none, some, one, left, none, next) refl

-- an earlier page is not among the first pages that pass
not_among : (p : ℕ → Bool) (n page from k : ℕ) → page < from → is_among (take n (filter p (range_with_len from k))) page ≡ false
not_among p zero page from k before = refl
not_among p (suc n) page from zero before = refl
not_among p (suc n) page from (suc k) before =
    by (p from) refl (not_among p n page (from + 1) k (omega arith)) (not_among p (suc n) page (from + 1) k (omega arith))
  where
    other : (from == page) ≡ false
    other = grind (arith, nat_tests)

    by : (v : Bool) → p from ≡ v → is_among (take n (filter p (range_with_len (from + 1) k))) page ≡ false → is_among (take (suc n) (filter p (range_with_len (from + 1) k))) page ≡ false → is_among (take (suc n) (filter p (range_with_len from (suc k)))) page ≡ false
    by true is fewer rest = rw (is, other) fewer
    by false is fewer rest = rw is rest

-- the runs of the first n pages that pass are the first n pages of the runs
pub taken_are_first : (p : ℕ → Bool) (n from k : ℕ) → runs_of (is_among (take n (filter p (range_with_len from k)))) from k ≡ first_pages n (runs_of p from k)
taken_are_first p zero from k = runs_none from k ∙ sym (first_none (runs_of p from k))
taken_are_first p (suc n) from zero = refl
taken_are_first p (suc n) from (suc k) = by (p from) refl (taken_are_first p n (from + 1) k) (taken_are_first p (suc n) (from + 1) k)
  where
    same : (from == from) ≡ true
    same = grind (arith, nat_tests)

    later : (pages : List ℕ) (page : ℕ) → from + 1 ≤ page → is_among (from ∷ pages) page ≡ is_among pages page
    later pages page after = let other : (from == page) ≡ false = grind (arith, nat_tests) in rw other refl

    TheRuns : ℕ → Type 0
    TheRuns m = runs_of (is_among (take m (filter p (range_with_len (from + 1) k)))) (from + 1) k ≡ first_pages m (runs_of p (from + 1) k)

    by : (v : Bool) → p from ≡ v → TheRuns n → TheRuns (suc n) → runs_of (is_among (take (suc n) (filter p (range_with_len from (suc k))))) from (suc k) ≡ first_pages (suc n) (runs_of p from (suc k))
    by true is fewer rest =
        let pages = take n (filter p (range_with_len (from + 1) k)) in
        let others = runs_agree (is_among (from ∷ pages)) (is_among pages) (from + 1) k (later pages) ∙ fewer in
        let first : take (suc n) (filter p (range_with_len from (suc k))) ≡ from ∷ pages = rw is refl in
        let here : runs_of (is_among (from ∷ pages)) from (suc k) ≡ first_pages (suc n) (runs_of p from (suc k)) = rw (is, same) (ap (with_page from) others ∙ sym (with_page_first from n (runs_of p (from + 1) k))) in
        ap (λ ps. runs_of (is_among ps) from (suc k)) first ∙ here
    by false is fewer rest =
        let pages = take (suc n) (filter p (range_with_len (from + 1) k)) in
        let others : take (suc n) (filter p (range_with_len from (suc k))) ≡ pages = rw is refl in
        let here : runs_of (is_among pages) from (suc k) ≡ first_pages (suc n) (runs_of p from (suc k)) = rw (is, not_among p (suc n) from (from + 1) k (omega arith)) rest in
        ap (λ ps. runs_of (is_among ps) from (suc k)) others ∙ here

-- the end of the last run, or this page where there is none
abbrev pub end_or : ℕ → List Run → ℕ
end_or page rs = option_map_or run_end (last_or None rs) page

-- the page after the last page, or this page where there is none
abbrev pub page_end_or : ℕ → List ℕ → ℕ
page_end_or page pages = option_map_or (λ p. p + 1) (last_or None pages) page

-- where there is a run, the page makes no difference
end_or_any : (page other : ℕ) (r : Run) (rs : List Run) → end_or page (r ∷ rs) ≡ end_or other (r ∷ rs)
end_or_any page other r [] = refl
end_or_any page other r (s ∷ rs) = end_or_any page other s rs

pub end_or-cons : (page : ℕ) (r : Run) (rs : List Run) → end_or page (r ∷ rs) ≡ end_or (run_end r) rs
end_or-cons page r [] = refl
end_or-cons page r (s ∷ rs) = end_or_any page (run_end r) s rs

page_end_or_any : (page other p : ℕ) (pages : List ℕ) → page_end_or page (p ∷ pages) ≡ page_end_or other (p ∷ pages)
page_end_or_any page other p [] = refl
page_end_or_any page other p (q ∷ pages) = page_end_or_any page other q pages

page_end_or-cons : (page p : ℕ) (pages : List ℕ) → page_end_or page (p ∷ pages) ≡ page_end_or (p + 1) pages
page_end_or-cons page p [] = refl
page_end_or-cons page p (q ∷ pages) = page_end_or_any page (p + 1) q pages

end_or-with_page : (other page : ℕ) (rs : List Run) → end_or other (with_page page rs) ≡ end_or (page + 1) rs
end_or-with_page other page [] = refl
end_or-with_page other page (r ∷ []) = by (r.start == page + 1) refl
  where
    by : (v : Bool) → (r.start == page + 1) ≡ v → end_or other (with_page page (r ∷ [])) ≡ end_or (page + 1) (r ∷ [])
    by true is = let next : r.start ≡ page + 1 = grind (arith, nat_tests) in rw is (omega arith)
    by false is = rw is refl
end_or-with_page other page (r ∷ s ∷ rs) = by (r.start == page + 1) refl
  where
    by : (v : Bool) → (r.start == page + 1) ≡ v → end_or other (with_page page (r ∷ s ∷ rs)) ≡ end_or (page + 1) (r ∷ s ∷ rs)
    by true is = rw is (end_or_any other (page + 1) s rs)
    by false is = rw is (end_or_any other (page + 1) s rs)

-- the first n pages of runs end where the first n pages that pass do
pub ends_agree : (p : ℕ → Bool) (other n from k : ℕ) → end_or other (first_pages n (runs_of p from k)) ≡ page_end_or other (take n (filter p (range_with_len from k)))
ends_agree p other zero from k = ap (end_or other) (first_none (runs_of p from k))
ends_agree p other (suc n) from zero = refl
ends_agree p other (suc n) from (suc k) = by (p from) refl (ends_agree p (from + 1) n (from + 1) k) (ends_agree p other (suc n) (from + 1) k)
  where
    SameEnd : ℕ → ℕ → Type 0
    SameEnd page m = end_or page (first_pages m (runs_of p (from + 1) k)) ≡ page_end_or page (take m (filter p (range_with_len (from + 1) k)))

    by : (v : Bool) → p from ≡ v → SameEnd (from + 1) n → SameEnd other (suc n) → end_or other (first_pages (suc n) (runs_of p from (suc k))) ≡ page_end_or other (take (suc n) (filter p (range_with_len from (suc k))))
    by true is fewer rest =
        let pages = take n (filter p (range_with_len (from + 1) k)) in
        rw is
        (ap (end_or other) (with_page_first from n (runs_of p (from + 1) k))
        ∙ end_or-with_page other from (first_pages n (runs_of p (from + 1) k))
        ∙ fewer
        ∙ sym (page_end_or-cons other from pages))
    by false is fewer rest = rw is rest

-- the first n pages of runs are n, or all of them
pub first_pages_sum : (n : ℕ) (rs : List Run) → sum_by (λ r. r.pages) (first_pages n rs) ≡ min n (sum_by (λ r. r.pages) rs)
first_pages_sum n [] = omega arith
first_pages_sum n (r ∷ rs) = by (n == 0) refl (first_pages_sum (n - r.pages) rs)
  where
    all : sum_by (λ s. s.pages) (r ∷ rs) ≡ r.pages + sum_by (λ s. s.pages) rs
    all = sum_by-cons (λ (s : Run). s.pages) r rs

    by : (v : Bool) → (n == 0) ≡ v → sum_by (λ s. s.pages) (first_pages (n - r.pages) rs) ≡ min (n - r.pages) (sum_by (λ s. s.pages) rs) → sum_by (λ s. s.pages) (first_pages n (r ∷ rs)) ≡ min n (sum_by (λ s. s.pages) (r ∷ rs))
    by true is rest = let none : n ≡ 0 = grind (arith, nat_tests) in rw is (omega arith)
    by false is rest =
        let first : Run = record r { pages = min r.pages n } in
        rw is (sum_by-cons (λ (s : Run). s.pages) first (first_pages (n - r.pages) rs) ∙ omega (arith, rest, all))

pub length-first_pages : (n : ℕ) (rs : List Run) → length (first_pages n rs) ≤ length rs
length-first_pages n [] = omega arith
length-first_pages n (r ∷ rs) = by (n == 0) refl (length-first_pages (n - r.pages) rs)
  where
    by : (v : Bool) → (n == 0) ≡ v → length (first_pages (n - r.pages) rs) ≤ length rs → length (first_pages n (r ∷ rs)) ≤ length (r ∷ rs)
    by true is rest = rw is (omega arith)
    by false is rest = rw is (omega (arith, rest))

-- the first pages of runs from one on, where some are wanted: the first pages of that run, and then of the others
first_pages_step : (n : ℕ) (r : Run) (rs : List Run) → 0 < n → first_pages n (r ∷ rs) ≡ record r { pages = min r.pages n } ∷ first_pages (n - min r.pages n) rs
first_pages_step n r rs some =
    let wanted : (n == 0) ≡ false = grind (arith, nat_tests) in
    let rest : n - min r.pages n ≡ n - r.pages = omega arith in
    rw (wanted, rest) refl

-- the run that stands for an index past the end
abbrev pub no_run : Run
no_run = record { start = 0; pages = 0 }

-- the part of the next run that is wanted
abbrev pub next_run : List Run → ℕ → ℕ → Run
next_run rs i n = record (get_or rs i no_run) { pages = min (get_or rs i no_run).pages n }

pub first_pages_more : (rs : List Run) (i n : ℕ) → i < length rs → 0 < n → first_pages n (drop i rs) ≡ next_run rs i n ∷ first_pages (n - min (get_or rs i no_run).pages n) (drop (i + 1) rs)
first_pages_more rs i n within some = ap (first_pages n) (drop_more rs i no_run within) ∙ first_pages_step n (get_or rs i no_run) (drop (i + 1) rs) some

pub first_pages_done : (rs : List Run) (n : ℕ) → n ≤ 0 → first_pages n rs ≡ []
first_pages_done rs n none = let is : n ≡ 0 = omega arith in rw is (first_none rs)

-- what is appended and what is still to come
pub pushed : {X : Type 0} (f : Run → X) (before all : List X) (first : Run) (left next : List Run) → before ++ map f left ≡ all → left ≡ first ∷ next → (before ++ f first ∷ []) ++ map f next ≡ all
pushed f before all first left next is step = append_assoc before (f first ∷ []) (map f next) ∙ ap (λ rs. before ++ map f rs) (sym step) ∙ is

-- where all pages of a row pass, they are one run
whole_run : (p : ℕ → Bool) (n from : ℕ) → length (filter p (range_with_len from n)) ≡ n → 0 < n → runs_of p from n ≡ record { start = from; pages = n } ∷ []
whole_run p zero from all some = absurd (omega arith)
whole_run p (suc zero) from all some = by (p from) refl
  where
    by : (v : Bool) → p from ≡ v → runs_of p from (suc zero) ≡ record { start = from; pages = suc zero } ∷ []
    by true is = rw is refl
    by false is = let none : length (filter p (range_with_len from (suc zero))) ≡ 0 = rw is refl in absurd (omega (arith, all, none))
whole_run p (suc (suc k)) from all some = by (p from) refl (whole_run p (suc k) (from + 1))
  where
    rest : ℕ
    rest = length (filter p (range_with_len (from + 1) (suc k)))

    few : rest ≤ suc k
    few = omega (arith, length-filter p (range_with_len (from + 1) (suc k)), count_by-le-length p (range_with_len (from + 1) (suc k)), length-range_with_len (from + 1) (suc k))

    by : (v : Bool) → p from ≡ v → (rest ≡ suc k → 0 < suc k → runs_of p (from + 1) (suc k) ≡ record { start = from + 1; pages = suc k } ∷ []) → runs_of p from (suc (suc k)) ≡ record { start = from; pages = suc (suc k) } ∷ []
    by true is others =
        let count : length (filter p (range_with_len from (suc (suc k)))) ≡ suc rest = rw is refl in
        let later = others (omega (arith, count, all)) (omega arith) in
        let here : runs_of p from (suc (suc k)) ≡ with_page from (runs_of p (from + 1) (suc k)) = rw is refl in
        let next : (from + 1 == from + 1) ≡ true = grind (arith, nat_tests) in
        let joined : with_page from (record { start = from + 1; pages = suc k } ∷ []) ≡ record { start = from; pages = suc k + 1 } ∷ [] = rw next refl in
        let more : suc k + 1 ≡ suc (suc k) = omega arith in
        here ∙ ap (with_page from) later ∙ joined ∙ ap (λ n. record { start = from; pages = n } ∷ []) more
    by false is others =
        let count : length (filter p (range_with_len from (suc (suc k)))) ≡ rest = rw is refl in
        absurd (omega (arith, count, all, few))

-- so are the first of them
first_of_whole : (p : ℕ → Bool) (n from share : ℕ) → length (filter p (range_with_len from n)) ≡ n → 1 ≤ share → share ≤ n → first_pages share (runs_of p from n) ≡ record { start = from; pages = share } ∷ []
first_of_whole p n from share all some few =
    let run : Run = record { start = from; pages = n } in
    let least : min n share ≡ share = omega arith in
    ap (first_pages share) (whole_run p n from all (omega arith))
    ∙ first_pages_step share run [] (omega arith)
    ∙ ap (λ m. record { start = from; pages = m } ∷ []) least

pub whole_taken : (p : ℕ → Bool) (n from share : ℕ) → length (filter p (range_with_len from n)) ≡ n → 1 ≤ share → share ≤ n → runs_of (is_among (take share (filter p (range_with_len from n)))) from n ≡ record { start = from; pages = share } ∷ []
whole_taken p n from share all some few = taken_are_first p share from n ∙ first_of_whole p n from share all some few

-- and they end after as many pages
pub whole_cut : (p : ℕ → Bool) (n from share : ℕ) → length (filter p (range_with_len from n)) ≡ n → 1 ≤ share → share ≤ n → page_end_or 0 (take share (filter p (range_with_len from n))) - from ≡ share
whole_cut p n from share all some few =
    let end : from + share ≡ page_end_or 0 (take share (filter p (range_with_len from n))) = ap (end_or 0) (sym (first_of_whole p n from share all some few)) ∙ ends_agree p 0 share from n in
    omega (arith, end)
