-- A passing page is not taken exactly where more pages pass than are left.
use Rattle.std.proofs.Common.{◌≡◌, ◌⊎◌, inl, inr, ℕ, ◌<◌, ◌≤◌, Bool, true, false, List, [], ◌∷◌, Option, Some, None, length, map, refl, sym, ap, ◌∙◌, arith}
use Rattle.std.specs.Prelude.{slice_index_or, nat_le, nat_lt, ◌||◌, sum_by, All, if◌then◌else◌, not, ◌==◌}
use Rattle.std.proofs.lemmas.Bool.{cases_lt}
use Rattle.std.proofs.lemmas.Bool.Decides.{nat_tests}
use Rattle.std.proofs.lemmas.List.Elements.{All-map}
use Rattle.std.proofs.lemmas.List.Folds.{list_any_none}
use Rattle.std.proofs.lemmas.List.Sums.{sum_by-cons}
use Rattle.priority.specs.declared.candidates.Candidate.{Candidate}
use Rattle.priority.specs.Candidates.{DistinctStarts, IsCandidate}
use Rattle.priority.specs.Chosen.{leaves_pages, taken_of}
use Rattle.priority.specs.Kept.{passing_from}
use Rattle.priority.specs.Share.{with_share, with_shares}
use Rattle.priority.proofs.BestLemmas.{all_before}
use Rattle.priority.proofs.TakenLemmas.{taken_is}
use Rattle.priority.proofs.WalkLemmas.{passing_of}

all_taken : (cs : List Candidate) → leaves_pages cs ≡ false → sum_by passing_of cs ≤ taken_of cs
all_taken [] none = omega arith
all_taken (c ∷ cs) none = by (all_taken cs) (nat_lt c.share c.passing) refl none
  where
    by : (leaves_pages cs ≡ false → sum_by passing_of cs ≤ taken_of cs) → (v : Bool) → nat_lt c.share c.passing ≡ v → (v || leaves_pages cs) ≡ false → sum_by passing_of (c ∷ cs) ≤ taken_of (c ∷ cs)
    by rest true test is = cc is
    by rest false test is =
        let most : c.passing ≤ c.share = grind (arith, nat_tests) in
        omega (arith, most, rest is, sum_by-cons passing_of c cs, sum_by-cons (λ (x : Candidate). x.share) c cs)

passing_same : (left : Option ℕ) (all cs : List Candidate) → sum_by passing_of (map (with_share left all) cs) ≡ sum_by passing_of cs
passing_same left all [] = refl
passing_same left all (c ∷ cs) = omega (arith, sum_by-cons passing_of c cs, sum_by-cons passing_of (with_share left all c) (map (with_share left all) cs), passing_same left all cs)

pub exceeds_is : (n : ℕ) (cs : List Candidate) → DistinctStarts cs → nat_lt n (sum_by passing_of cs) ≡ leaves_pages (with_shares (Some n) cs)
exceeds_is n cs distinct = by (cases_lt n (sum_by passing_of cs))
  where
    shares : List Candidate
    shares = with_shares (Some n) cs

    some : n < sum_by passing_of cs → (v : Bool) → leaves_pages shares ≡ v → v ≡ true
    some less true is = refl
    some less false is = absurd (omega (arith, less, all_taken shares is, passing_same (Some n) cs cs, taken_is n cs distinct))

    by : (n < sum_by passing_of cs) ⊎ (sum_by passing_of cs ≤ n) → nat_lt n (sum_by passing_of cs) ≡ leaves_pages shares
    by (inl less) =
        let test : nat_lt n (sum_by passing_of cs) ≡ true = grind (arith, nat_tests) in
        test ∙ sym (some less (leaves_pages shares) refl)
    by (inr more) =
        let test : nat_lt n (sum_by passing_of cs) ≡ false = grind (arith, nat_tests) in
        let Short : Candidate → Bool = λ c. nat_lt c.share c.passing in
        test ∙ sym (list_any_none Short shares (All-map (λ c. Short c ≡ false) (with_share (Some n) cs) cs (λ k d within.
        let r = with_share (Some n) cs (slice_index_or cs k d) in
        let whole : r.passing ≤ r.share = omega (arith, more, all_before cs k d within) in
        grind (arith, nat_tests))))

-- all pages pass from the score 0 upward
pub passing_all : (cs : List Candidate) → passing_from cs 0 ≡ sum_by passing_of cs
passing_all [] = refl
passing_all (c ∷ cs) =
    let test : nat_le 0 c.score ≡ true = grind (arith, nat_tests) in
    omega (arith, sum_by-cons (λ (x : Candidate). if nat_le 0 x.score then x.passing else 0) c cs, sum_by-cons passing_of c cs, ap (λ v. if v then c.passing else 0) test, passing_all cs)

-- a candidate has a passing page
pub exceeds_some : (cs : List Candidate) (n : ℕ) → DistinctStarts cs → All IsCandidate cs → n ≡ length cs → not (n == 0) ≡ leaves_pages (with_shares (Some 0) cs)
exceeds_some [] n distinct each size =
    let test : (n == 0) ≡ true = grind (arith, nat_tests, size) in
    ap not test
exceeds_some (c ∷ cs) n distinct each size =
    let test : (n == 0) ≡ false = grind (arith, nat_tests, size) in
    let one = each 0 c (omega arith) in
    let more : nat_lt 0 (sum_by passing_of (c ∷ cs)) ≡ true = grind (arith, nat_tests, sum_by-cons passing_of c cs, one.passing) in
    ap not test ∙ sym more ∙ exceeds_is 0 (c ∷ cs) distinct

-- without a quota all pages are taken
pub exceeds_none : (cs : List Candidate) → leaves_pages (with_shares None cs) ≡ false
exceeds_none cs =
    list_any_none (λ (c : Candidate). nat_lt c.share c.passing) (with_shares None cs)
    (All-map (λ c. nat_lt c.share c.passing ≡ false) (with_share None cs) cs (λ k d within. let r = slice_index_or cs k d in let test : nat_lt r.passing r.passing ≡ false = grind (arith, nat_tests) in test))
