-- No other pages have a greater sum of scores than those that are taken.
use Rattle.std.proofs.Common.{◌≡◌, inl, inr, ℕ, ◌+◌, ◌*◌, ◌≤◌, Bool, true, false, not, List, [], ◌∷◌, Option, Some, None, length, map, refl, sym, ap, ◌∙◌, subst, arith}
use Rattle.std.specs.Prelude.{All, IfSome, filter, find, nat_eq, sum, sum_by, zip}
use Rattle.std.specs.List.{AllByRecursion, AllZip, IsDistinct, list_any}
use Rattle.std.specs.Option.{option_map_or}
use Rattle.std.proofs.Math.Nat.{add-mul}
use Rattle.std.proofs.lemmas.Bool.{false≢true, or_cases}
use Rattle.std.proofs.lemmas.Bool.Decides.{nat_tests}
use Rattle.std.proofs.lemmas.Cmp.{nat_eq_equiv}
use Rattle.std.proofs.lemmas.List.Elements.{All-head, All-tail}
use Rattle.std.proofs.lemmas.List.Sums.{sum_by-append, sum_by-cons}
use Rattle.std.proofs.lemmas.Map.Keys.{IsDistinct-cons, IsDistinct-head, IsDistinct-tail}
use Rattle.std.proofs.lemmas.Map.Made.{length-le_from_is_member}
use Rattle.damon_types.specs.Span.{Span}
use Rattle.scheme_filter.specs.declared.runs.Run.{Run}
use Rattle.priority.specs.declared.candidates.Candidate.{Candidate}
use Rattle.priority.specs.Best.{IsBest, IsChoice, shares_of, sum_of_scores}
use Rattle.scheme_engine.specs.declared.applied.AppliedRun.{AppliedRun}
use Rattle.scheme_engine.specs.Applying.{IsCandidateOf}
use Rattle.scheme_engine.specs.Best.{ArePagesWithin, is_page_of, score_of_pages, score_of_runs}
use Rattle.scheme_engine.specs.Candidates.{passing_pages}
use Rattle.scheme_engine.specs.Taken.{applied_run, applied_runs, candidate_runs, span_at, taken_runs}
use Rattle.scheme_engine.proofs.PlaceLemmas.{Ascend}
use Rattle.scheme_engine.proofs.RunLemmas.{candidate_sum, span_is}

-- the score of a page: that of its candidate, 0 where it has none
abbrev page_score : (Candidate → ℕ → Bool) → List Candidate → ℕ → ℕ
page_score is_of cs page = option_map_or (λ c. c.score) (find (λ c. is_of c page) cs) 0

-- the pages of a candidate among others, and those that are not its own
abbrev outside : (Candidate → ℕ → Bool) → Candidate → List ℕ → List ℕ
outside is_of c pages = filter (λ p. not (is_of c p)) pages

record Splits (is_of : Candidate → ℕ → Bool) (c : Candidate) (cs : List Candidate) (pages : List ℕ) : Type 0 where
  count : length (filter (is_of c) pages) + length (outside is_of c pages) ≡ length pages
  score : score_of_pages is_of (c ∷ cs) pages ≡ length (filter (is_of c) pages) * c.score + score_of_pages is_of cs (outside is_of c pages)

splits_more : (is_of : Candidate → ℕ → Bool) (c : Candidate) (cs : List Candidate) (p : ℕ) (pages : List ℕ) → Splits is_of c cs pages → (b : Bool) → is_of c p ≡ b → Splits is_of c cs (p ∷ pages)
splits_more is_of c cs p pages rest true is =
    let here : filter (is_of c) (p ∷ pages) ≡ p ∷ filter (is_of c) pages = rw is refl in
    let others : outside is_of c (p ∷ pages) ≡ outside is_of c pages = rw is refl in
    let score : page_score is_of (c ∷ cs) p ≡ c.score = rw is refl in
    let n : ℕ = length (filter (is_of c) pages) in
    let more : length (filter (is_of c) (p ∷ pages)) ≡ 1 + n = omega (arith, ap (λ (ps : List ℕ). length ps) here) in
    record {
      count = omega (arith, more, ap (λ (ps : List ℕ). length ps) others, rest.count);
      score = omega (arith, ap (λ k. k * c.score) more, add-mul 1 n c.score, sum_by-cons (page_score is_of (c ∷ cs)) p pages, score, ap (score_of_pages is_of cs) others, rest.score);
    }
splits_more is_of c cs p pages rest false isnt =
    let here : filter (is_of c) (p ∷ pages) ≡ filter (is_of c) pages = rw isnt refl in
    let others : outside is_of c (p ∷ pages) ≡ p ∷ outside is_of c pages = rw isnt refl in
    let score : page_score is_of (c ∷ cs) p ≡ page_score is_of cs p = rw isnt refl in
    let same : length (filter (is_of c) (p ∷ pages)) ≡ length (filter (is_of c) pages) = ap (λ (ps : List ℕ). length ps) here in
    record {
      count = omega (arith, same, ap (λ (ps : List ℕ). length ps) others, rest.count);
      score = omega (arith, ap (λ k. k * c.score) same, sum_by-cons (page_score is_of (c ∷ cs)) p pages, score, ap (score_of_pages is_of cs) others, sum_by-cons (page_score is_of cs) p (outside is_of c pages), rest.score);
    }

splits : (is_of : Candidate → ℕ → Bool) (c : Candidate) (cs : List Candidate) (pages : List ℕ) → Splits is_of c cs pages
splits is_of c cs [] = record { count = refl; score = omega arith }
splits is_of c cs (p ∷ pages) = splits_more is_of c cs p pages (splits is_of c cs pages) (is_of c p) refl

-- how many of the pages each candidate has, where the first that has a page has it
abbrev numbers : (Candidate → ℕ → Bool) → List Candidate → List ℕ → List ℕ
numbers is_of [] pages = []
numbers is_of (c ∷ cs) pages = length (filter (is_of c) pages) ∷ numbers is_of cs (outside is_of c pages)

numbers_sum : (is_of : Candidate → ℕ → Bool) (cs : List Candidate) (pages : List ℕ) → sum (numbers is_of cs pages) ≤ length pages
numbers_sum is_of [] pages = omega arith
numbers_sum is_of (c ∷ cs) pages =
    let others = outside is_of c pages in
    omega (arith, sum_by-cons (λ (x : ℕ). x) (length (filter (is_of c) pages)) (numbers is_of cs others), numbers_sum is_of cs others, (splits is_of c cs pages).count)

no_score : (is_of : Candidate → ℕ → Bool) (pages : List ℕ) → score_of_pages is_of [] pages ≡ 0
no_score is_of [] = refl
no_score is_of (p ∷ pages) = omega (arith, sum_by-cons (page_score is_of []) p pages, no_score is_of pages)

numbers_score : (is_of : Candidate → ℕ → Bool) (cs : List Candidate) (pages : List ℕ) → score_of_pages is_of cs pages ≡ sum_of_scores cs (numbers is_of cs pages)
numbers_score is_of [] pages = no_score is_of pages
numbers_score is_of (c ∷ cs) pages =
    let of_one : Candidate × ℕ → ℕ = λ p. p.1 * p.0.score in
    let others = outside is_of c pages in
    omega (arith, (splits is_of c cs pages).score, numbers_score is_of cs others, sum_by-cons of_one (c, length (filter (is_of c) pages)) (zip cs (numbers is_of cs others)))

-- a list of which a test keeps some
kept_first : (P : List ℕ → Type 0) (f : ℕ → Bool) (x : ℕ) (xs : List ℕ) → (f x ≡ true → P (x ∷ filter f xs)) → P (filter f xs) → P (filter f (x ∷ xs))
kept_first P f x xs first rest = by (f x) refl
  where
    by : (b : Bool) → f x ≡ b → P (filter f (x ∷ xs))
    by true is = let here : filter f (x ∷ xs) ≡ x ∷ filter f xs = rw is refl in subst P (sym here) (first is)
    by false isnt = let here : filter f (x ∷ xs) ≡ filter f xs = rw isnt refl in subst P (sym here) rest

all_filter : (P : ℕ → Type 0) (f : ℕ → Bool) (xs : List ℕ) → AllByRecursion P xs → AllByRecursion P (filter f xs)
all_filter P f [] all = tt
all_filter P f (x ∷ xs) all = let rest = all_filter P f xs all.1 in kept_first (AllByRecursion P) f x xs (λ is. (all.0, rest)) rest

distinct_filter : (f : ℕ → Bool) (xs : List ℕ) → IsDistinct nat_eq xs → IsDistinct nat_eq (filter f xs)
distinct_filter f [] distinct = distinct
distinct_filter f (x ∷ xs) distinct =
    let rest = distinct_filter f xs (IsDistinct-tail nat_eq x xs distinct) in
    let apart = all_filter (λ y. nat_eq x y ≡ false) f xs (IsDistinct-head nat_eq x xs distinct) in
    kept_first (IsDistinct nat_eq) f x xs (λ is. IsDistinct-cons nat_eq x (filter f xs) apart rest) rest

-- what a test keeps passes it
kept_passes : (f : ℕ → Bool) (xs : List ℕ) (q : ℕ) → list_any (nat_eq q) (filter f xs) ≡ true → f q ≡ true
kept_passes f [] q any = absurd (false≢true any)
kept_passes f (x ∷ xs) q any =
    let rest = kept_passes f xs q in
    kept_first (λ ys. list_any (nat_eq q) ys ≡ true → f q ≡ true) f x xs
    (λ is both. elim (or_cases (nat_eq q x) (list_any (nat_eq q) (filter f xs)) both) [
      | inl first ↦ (let same : q ≡ x = grind (arith, nat_tests) in ap f same ∙ is)
      | inr later ↦ rest later
    ])
    rest any

-- pages that differ have no more of a candidate's than pass
abbrev FewPages : (Candidate → ℕ → Bool) → Candidate → Type 0
FewPages is_of c = (pages : List ℕ) → IsDistinct nat_eq pages → length (filter (is_of c) pages) ≤ c.passing

few_pages : (passes : ℕ → Bool) (ss : List Span) → Ascend 0 ss → (c : Candidate) → IsCandidateOf passes ss c → FewPages (is_page_of passes ss) c
few_pages passes ss ascend c is pages distinct =
    let own = passing_pages passes (span_at ss c) in
    let count : c.passing ≡ length own = is.passing ∙ ap (λ s. length (passing_pages passes s)) (sym (span_is passes ss c ascend is)) in
    omega (arith, count, length-le_from_is_member nat_eq_equiv (filter (is_page_of passes ss c) pages) own (distinct_filter (is_page_of passes ss c) pages distinct) (kept_passes (is_page_of passes ss c) pages))

numbers_fit : (is_of : Candidate → ℕ → Bool) (cs : List Candidate) (pages : List ℕ) → All (FewPages is_of) cs → IsDistinct nat_eq pages → AllZip (λ c n. n ≤ c.passing) cs (numbers is_of cs pages)
numbers_fit is_of [] pages few distinct = tt
numbers_fit is_of (c ∷ cs) pages few distinct = (
  All-head (FewPages is_of) c cs few pages distinct,
  numbers_fit is_of cs (outside is_of c pages) (All-tail (FewPages is_of) c cs few) (distinct_filter (λ p. not (is_of c p)) pages distinct),
)

within_less : (left : Option ℕ) (m n : ℕ) → m ≤ n → IfSome left (λ most. n ≤ most) → IfSome left (λ most. m ≤ most)
within_less None m n less within = tt
within_less (Some most) m n less within = omega (arith, less, within)

-- pages within what is left have no greater sum of scores than the shares
pages_at_most : (left : Option ℕ) (is_of : Candidate → ℕ → Bool) (cs : List Candidate) (pages : List ℕ) → All (FewPages is_of) cs → IsBest left cs → ArePagesWithin left is_of cs pages → score_of_pages is_of cs pages ≤ sum_of_scores cs (shares_of cs)
pages_at_most left is_of cs pages few best are =
    let ns = numbers is_of cs pages in
    let choice : IsChoice left cs ns = record {
      each = numbers_fit is_of cs pages few are.distinct;
      within = within_less left (sum ns) (length pages) (numbers_sum is_of cs pages) are.within;
    } in
    omega (arith, numbers_score is_of cs pages, best.most ns choice)

-- the runs of a candidate have its score
runs_of_one : (slot : ℕ) (c : Candidate) (rs : List Run) → score_of_runs (map (applied_run slot c) rs) ≡ sum_by (λ r. r.pages) (map (applied_run slot c) rs) * c.score
runs_of_one slot c [] = omega arith
runs_of_one slot c (r ∷ rs) =
    let first = applied_run slot c r in
    let others = map (applied_run slot c) rs in
    let n : ℕ = sum_by (λ (x : AppliedRun). x.pages) others in
    let pages : sum_by (λ (x : AppliedRun). x.pages) (first ∷ others) ≡ r.pages + n = sum_by-cons (λ (x : AppliedRun). x.pages) first others in
    omega (arith, sum_by-cons (λ (x : AppliedRun). x.pages * x.score) first others, runs_of_one slot c rs, ap (λ k. k * c.score) pages, add-mul r.pages n c.score)

runs_score : (slot : ℕ) (passes : ℕ → Bool) (ss : List Span) (cs : List Candidate) → Ascend 0 ss → All (IsCandidateOf passes ss) cs → score_of_runs (applied_runs slot passes ss cs) ≡ sum_of_scores cs (shares_of cs)
runs_score slot passes ss [] ascend all = refl
runs_score slot passes ss (c ∷ cs) ascend all =
    let of_one : Candidate × ℕ → ℕ = λ p. p.1 * p.0.score in
    let own = candidate_runs slot passes ss c in
    let here : score_of_runs own ≡ sum_by (λ r. r.pages) own * c.score = runs_of_one slot c (taken_runs passes c.share (span_at ss c)) in
    let share = candidate_sum slot passes ss c ascend (All-head (IsCandidateOf passes ss) c cs all) in
    let rest = runs_score slot passes ss cs ascend (All-tail (IsCandidateOf passes ss) c cs all) in
    omega (arith, sum_by-append (λ (r : AppliedRun). r.pages * r.score) own (applied_runs slot passes ss cs), here, ap (λ k. k * c.score) share, rest, sum_by-cons of_one (c, c.share) (zip cs (shares_of cs)))

all_few : (passes : ℕ → Bool) (ss : List Span) (cs : List Candidate) → Ascend 0 ss → All (IsCandidateOf passes ss) cs → All (FewPages (is_page_of passes ss)) cs
all_few passes ss cs ascend all k d within = few_pages passes ss ascend _ (all k d within)

-- no greater sum of scores than the runs
pub pages_are_best : (slot : ℕ) (left : Option ℕ) (passes : ℕ → Bool) (ss : List Span) (cs : List Candidate) → Ascend 0 ss → All (IsCandidateOf passes ss) cs → IsBest left cs
    → (pages : List ℕ) → ArePagesWithin left (is_page_of passes ss) cs pages → score_of_pages (is_page_of passes ss) cs pages ≤ score_of_runs (applied_runs slot passes ss cs)
pages_are_best slot left passes ss cs ascend all best pages are =
    omega (arith, runs_score slot passes ss cs ascend all, pages_at_most left (is_page_of passes ss) cs pages (all_few passes ss cs ascend all) best are)
