-- Lists of runs, and the longest runs of passing pages.
use Rattle.std.proofs.Common.{◌≡◌, ◌⊎◌, inl, inr, ℕ, zero, suc, ◌+◌, ◌-◌, ◌<◌, ◌≤◌, Bool, true, false, List, [], ◌∷◌, ◌++◌, sym, ◌∙◌, arith}
use Rattle.std.specs.Prelude.{slice_index_or, ◌||◌, ◌&&◌, nat_lt, nat_le, All, AllPairs}
use Rattle.std.specs.List.{list_any}
use Rattle.std.proofs.lemmas.Bool.{cases_lt}
use Rattle.std.proofs.lemmas.Bool.Decides.{nat_tests}
use Rattle.std.proofs.lemmas.List.Elements.{All-cons, All-nil, All-append}
use Rattle.std.proofs.lemmas.List.Folds.{list_any-append, list_any_none}
use Rattle.std.proofs.lemmas.List.Quantifiers.{all_pairs_push}
use Rattle.scheme_filter.specs.declared.runs.Run.{Run}
use Rattle.scheme_filter.specs.Runs.{run_end, run_holds, AreLongest}

pub all_weaker : (P Q : Run → Type 0) (runs : List Run) → ((r : Run) → P r → Q r) → All P runs → All Q runs
all_weaker P Q runs f all k d within = f (slice_index_or runs k d) (all k d within)

pub all_push : (P : Run → Type 0) (runs : List Run) (r : Run) → All P runs → P r → All P (runs ++ r ∷ [])
all_push P runs r all one = All-append P runs (r ∷ []) all (All-cons P r [] one (All-nil P))

-- no run holds a page after the end of all
none_hold : (page : ℕ) (runs : List Run) → All (λ r. run_end r ≤ page) runs → list_any (run_holds page) runs ≡ false
none_hold page runs ended = list_any_none (run_holds page) runs (λ k d within. let past = ended k d within in grind (arith, nat_tests))

-- no run begins at or before the page
pub all_later : (page : ℕ) (runs : List Run) → All (λ r. page < r.start) runs → list_any (run_holds page) runs ≡ false
all_later page runs later = list_any_none (run_holds page) runs (λ k d within. let past = later k d within in grind (arith, nat_tests))

-- the runs after the first one begin after its end
pub after_first : (r : Run) (rs : List Run) → AllPairs (λ q s. run_end q < s.start) (r ∷ rs) → All (λ s. run_end r < s.start) rs
after_first r rs apart k d within = apart 0 (suc k) d (omega arith) (omega (arith, within))

pub rest_apart : (r : Run) (rs : List Run) → AllPairs (λ q s. run_end q < s.start) (r ∷ rs) → AllPairs (λ q s. run_end q < s.start) rs
rest_apart r rs apart i j d less within = apart (suc i) (suc j) d (omega (arith, less)) (omega (arith, within))

pub apart_cons : (s : Run) (rs : List Run) → All (λ t. run_end s < t.start) rs → AllPairs (λ q t. run_end q < t.start) rs → AllPairs (λ q t. run_end q < t.start) (s ∷ rs)
apart_cons s rs first rest zero zero d less inside = absurd (omega (arith, less))
apart_cons s rs first rest zero (suc j) d less inside = first j d (omega (arith, inside))
apart_cons s rs first rest (suc i) zero d less inside = absurd (omega (arith, less))
apart_cons s rs first rest (suc i) (suc j) d less inside = rest i j d (omega (arith, less)) (omega (arith, inside))

-- another first run of which no page is nearer to the second
pub other_first : (r s : Run) (rs : List Run) → run_end s ≤ run_end r → AllPairs (λ q t. run_end q < t.start) (r ∷ rs) → AllPairs (λ q t. run_end q < t.start) (s ∷ rs)
other_first r s rs less apart zero zero d before inside = absurd (omega (arith, before))
other_first r s rs less apart zero (suc j) d before inside = omega (arith, less, apart 0 (suc j) d (omega arith) inside)
other_first r s rs less apart (suc i) zero d before inside = absurd (omega (arith, before))
other_first r s rs less apart (suc i) (suc j) d before inside = apart (suc i) (suc j) d before inside

-- only the pages of the row count
pub longest_same : (passes other : ℕ → Bool) (from to : ℕ) (runs : List Run) → ((p : ℕ) → from ≤ p → p < to → passes p ≡ other p) → AreLongest other from to runs → AreLongest passes from to runs
longest_same passes other from to runs same longest = record {
  exact = λ p low high. longest.exact p low high ∙ sym (same p low high);
  some = longest.some;
  within = longest.within;
  apart = longest.apart;
}

-- no page passes
pub longest_none : (passes : ℕ → Bool) (from to : ℕ) → ((p : ℕ) → from ≤ p → p < to → passes p ≡ false) → AreLongest passes from to []
longest_none passes from to none = record {
  exact = λ p low high. sym (none p low high);
  some = All-nil (λ (r : Run). 1 ≤ r.pages);
  within = All-nil (λ (r : Run). (from ≤ r.start) × (run_end r ≤ to));
  apart = λ i j d less within. absurd (omega (arith, within));
}

-- one more run, and then pages that do not pass
pub longest_push : (passes : ℕ → Bool) (start from to next : ℕ) (runs : List Run) → start ≤ from → from < to → to ≤ next → ((p : ℕ) → from ≤ p → p < to → passes p ≡ true) → ((p : ℕ) → to ≤ p → p < next → passes p ≡ false) → All (λ r. run_end r < from) runs → AreLongest passes start from runs → AreLongest passes start next (runs ++ record { start = from; pages = to - from } ∷ [])
longest_push passes start from to next runs after some bound all none before longest = record {
  exact = λ p low high. list_any-append (run_holds p) runs (run ∷ []) ∙ by p low high (cases_lt p from) (cases_lt p to);
  some = all_push (λ r. 1 ≤ r.pages) runs run longest.some (omega (arith, some));
  within = all_push (λ r. (start ≤ r.start) × (run_end r ≤ next)) runs run (all_weaker (λ r. (start ≤ r.start) × (run_end r ≤ from)) (λ r. (start ≤ r.start) × (run_end r ≤ next)) runs (λ r both. (both.0, omega (arith, both.1, some, bound))) longest.within) (after, omega (arith, some, bound));
  apart = all_pairs_push (λ (q r : Run). run_end q < r.start) runs run longest.apart before;
}
  where
    run : Run
    run = record { start = from; pages = to - from }

    ended : (p : ℕ) → from ≤ p → list_any (run_holds p) runs ≡ false
    ended p low = none_hold p runs (all_weaker (λ r. run_end r < from) (λ r. run_end r ≤ p) runs (λ r early. omega (arith, early, low)) before)

    by : (p : ℕ) → start ≤ p → p < next → (p < from) ⊎ (from ≤ p) → (p < to) ⊎ (to ≤ p) → (list_any (run_holds p) runs || ((nat_le from p && nat_lt p (from + (to - from))) || false)) ≡ passes p
    by p low high (inl old) other = let is = longest.exact p low old in grind (arith, nat_tests)
    by p low high (inr new) (inl here) = let is = all p new here in let no = ended p new in grind (arith, nat_tests)
    by p low high (inr new) (inr past) = let is = none p past high in let no = ended p new in grind (arith, nat_tests)
