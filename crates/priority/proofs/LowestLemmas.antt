-- The lowest score of which a page is taken.
use Rattle.std.proofs.Common.{◌≡◌, ◌⊎◌, inl, inr, ℕ, suc, ◌<◌, ◌≤◌, Bool, true, false, cond, List, [], ◌∷◌, ◌++◌, Option, Some, None, map, refl, sym, ap, ◌∙◌, subst, arith}
use Rattle.std.specs.Prelude.{nat_lt, min, filter, fold, All, Any, IfSome, if◌then◌else◌}
use Rattle.std.specs.List.{reduce}
use Rattle.std.proofs.lemmas.Bool.{cases_lt}
use Rattle.std.proofs.lemmas.Bool.Decides.{nat_tests}
use Rattle.std.proofs.lemmas.List.Elements.{All-cons, All-nil, All-push, All-weaker, All-contains, Contains-append_left}
use Rattle.std.proofs.lemmas.List.Quantifiers.{Any-push}
use Rattle.std.proofs.lemmas.List.Sums.{get_or-le-sum_by, sum_by-le}
use Rattle.priority.specs.declared.candidates.Candidate.{Candidate}
use Rattle.priority.specs.Chosen.{taken_of, lowest_of}

-- the lesser of a number and one that may be there
abbrev least_with : ℕ → Option ℕ → ℕ
least_with n None = n
least_with n (Some m) = min n m

fold_min : (a b : ℕ) (ns : List ℕ) → fold min (min a b) ns ≡ min a (fold min b ns)
fold_min a b [] = refl
fold_min a b (n ∷ ns) =
    let same : min (min a b) n ≡ min a (min b n) = omega arith in
    ap (λ m. fold min m ns) same ∙ fold_min a (min b n) ns

reduce_cons : (n : ℕ) (ns : List ℕ) → reduce min (n ∷ ns) ≡ Some (least_with n (reduce min ns))
reduce_cons n [] = refl
reduce_cons n (m ∷ ns) = ap (λ k. Some k) (fold_min n m ns)

lowest_cons : (c : Candidate) (cs : List Candidate) → lowest_of (c ∷ cs) ≡ (if nat_lt 0 c.share then Some (least_with c.score (lowest_of cs)) else lowest_of cs)
lowest_cons c cs = by (nat_lt 0 c.share)
  where
    taken : List Candidate
    taken = filter (λ x. nat_lt 0 x.share) cs

    by : (v : Bool) → reduce min (map (λ x. x.score) (cond v (c ∷ taken) taken)) ≡ (if v then Some (least_with c.score (lowest_of cs)) else lowest_of cs)
    by true = reduce_cons c.score (map (λ x. x.score) taken)
    by false = refl

-- what a lowest score is
abbrev pub IsLowest : List Candidate → Option ℕ → Type 0
IsLowest cs None = All (λ c. c.share ≡ 0) cs
IsLowest cs (Some m) = All (λ c. 0 < c.share → m ≤ c.score) cs × Any (λ c. (0 < c.share) × (c.score ≡ m)) cs

any_behind : (P : Candidate → Type 0) (c : Candidate) (cs : List Candidate) → Any P cs → Any P (c ∷ cs)
any_behind P c cs any = (suc any.0, any.1, omega (arith, any.2), any.3, any.4)

pub lowest_is : (cs : List Candidate) → IsLowest cs (lowest_of cs)
lowest_is [] = All-nil (λ (c : Candidate). c.share ≡ 0)
lowest_is (c ∷ cs) = subst (λ o. IsLowest (c ∷ cs) o) (sym (lowest_cons c cs)) (by (nat_lt 0 c.share) refl (lowest_of cs) (lowest_is cs))
  where
    No : Candidate → Type 0
    No x = x.share ≡ 0

    lesser : (m : ℕ) → 0 < c.share → (c.score < m) ⊎ (m ≤ c.score) → Any (λ x. (0 < x.share) × (x.score ≡ m)) cs → Any (λ x. (0 < x.share) × (x.score ≡ min c.score m)) (c ∷ cs)
    lesser m some (inl less) rest = (0, c, omega arith, refl, (some, omega (arith, less)))
    lesser m some (inr more) rest = any_behind (λ x. (0 < x.share) × (x.score ≡ min c.score m)) c cs (rest.0, rest.1, rest.2, rest.3, (rest.4.0, omega (arith, more, rest.4.1)))

    by : (v : Bool) → nat_lt 0 c.share ≡ v → (o : Option ℕ) → IsLowest cs o → IsLowest (c ∷ cs) (if v then Some (least_with c.score o) else o)
    by false test None rest = All-cons (λ (x : Candidate). x.share ≡ 0) c cs (grind (arith, nat_tests)) rest
    by false test (Some m) rest = (All-cons (λ (x : Candidate). 0 < x.share → m ≤ x.score) c cs (λ some. absurd (grind (arith, nat_tests))) rest.0, any_behind (λ x. (0 < x.share) × (x.score ≡ m)) c cs rest.1)
    by true test None rest =
        let Least : Candidate → Type 0 = λ x. 0 < x.share → c.score ≤ x.score in
        (All-cons Least c cs (λ some. omega arith) (All-weaker (λ (x : Candidate). x.share ≡ 0) Least (λ x none some. absurd (omega (arith, none, some))) cs rest), (0, c, omega arith, refl, (grind (arith, nat_tests), refl)))
    by true test (Some m) rest =
        let Least : Candidate → Type 0 = λ x. 0 < x.share → min c.score m ≤ x.score in
        (All-cons Least c cs (λ some. omega arith) (All-weaker (λ (x : Candidate). 0 < x.share → m ≤ x.score) Least (λ x least some. omega (arith, least some)) cs rest.0), lesser m (grind (arith, nat_tests)) (cases_lt c.score m) rest.1)

-- what holds of all candidates holds of one of them
all_at : (Q P : Candidate → Type 0) (cs : List Candidate) → All Q cs → (any : Any P cs) → Q any.1
all_at Q P cs all any = All-contains Q cs any.1 all (any.0, any.2, any.3)

-- a list has one lowest score
pub lowest_one : (cs : List Candidate) (o p : Option ℕ) → IsLowest cs o → IsLowest cs p → o ≡ p
lowest_one cs None None one other = refl
lowest_one cs None (Some n) one other = absurd (omega (arith, all_at (λ (c : Candidate). c.share ≡ 0) (λ (c : Candidate). (0 < c.share) × (c.score ≡ n)) cs one other.1, other.1.4.0))
lowest_one cs (Some m) None one other = absurd (omega (arith, all_at (λ (c : Candidate). c.share ≡ 0) (λ (c : Candidate). (0 < c.share) × (c.score ≡ m)) cs other one.1, one.1.4.0))
lowest_one cs (Some m) (Some n) one other =
    let up : m ≤ other.1.1.score = all_at (λ (c : Candidate). 0 < c.share → m ≤ c.score) (λ (c : Candidate). (0 < c.share) × (c.score ≡ n)) cs one.0 other.1 other.1.4.0 in
    let down : n ≤ one.1.1.score = all_at (λ (c : Candidate). 0 < c.share → n ≤ c.score) (λ (c : Candidate). (0 < c.share) × (c.score ≡ m)) cs other.0 one.1 one.1.4.0 in
    ap (λ k. Some k) (omega (arith, up, down, other.1.4.1, one.1.4.1))

-- a bound on the scores of which a page is taken is one on the lowest
pub lowest_bound : (cs : List Candidate) (b : ℕ) → All (λ c. 0 < c.share → b ≤ c.score) cs → IfSome (lowest_of cs) (λ m. b ≤ m)
lowest_bound cs b high = by (lowest_of cs) (lowest_is cs)
  where
    by : (o : Option ℕ) → IsLowest cs o → IfSome o (λ m. b ≤ m)
    by None is = tt
    by (Some m) is =
        let at : b ≤ is.1.1.score = all_at (λ (c : Candidate). 0 < c.share → b ≤ c.score) (λ (c : Candidate). (0 < c.share) × (c.score ≡ m)) cs high is.1 is.1.4.0 in
        omega (arith, at, is.1.4.1)

-- one more candidate, which scores no higher than the others
pub lowest_push : (cs : List Candidate) (c : Candidate) → All (λ x. c.score ≤ x.score) cs → lowest_of (cs ++ c ∷ []) ≡ (if nat_lt 0 c.share then Some c.score else lowest_of cs)
lowest_push cs c low = lowest_one (cs ++ c ∷ []) (lowest_of (cs ++ c ∷ [])) _ (lowest_is (cs ++ c ∷ [])) (by (nat_lt 0 c.share) refl (lowest_of cs) (lowest_is cs))
  where
    by : (v : Bool) → nat_lt 0 c.share ≡ v → (o : Option ℕ) → IsLowest cs o → IsLowest (cs ++ c ∷ []) (if v then Some c.score else o)
    by true test o is =
        let Least : Candidate → Type 0 = λ x. 0 < x.share → c.score ≤ x.score in
        (All-push Least cs c (All-weaker (λ (x : Candidate). c.score ≤ x.score) Least (λ x less some. less) cs low) (λ some. omega arith), Any-push (λ (x : Candidate). (0 < x.share) × (x.score ≡ c.score)) cs c (grind (arith, nat_tests), refl))
    by false test None is = All-push (λ (x : Candidate). x.share ≡ 0) cs c is (grind (arith, nat_tests))
    by false test (Some m) is =
        let there = Contains-append_left cs (c ∷ []) is.1.1 (is.1.0, is.1.2, is.1.3) in
        (All-push (λ (x : Candidate). 0 < x.share → m ≤ x.score) cs c is.0 (λ some. absurd (grind (arith, nat_tests))), (there.0, is.1.1, there.1, there.2, is.1.4))

-- no page is taken exactly where no candidate has a share
pub taken_none : (cs : List Candidate) → All (λ c. c.share ≡ 0) cs → taken_of cs ≡ 0
taken_none cs none = omega (arith, sum_by-le (λ (c : Candidate). c.share) 0 cs (All-weaker (λ (c : Candidate). c.share ≡ 0) (λ (c : Candidate). c.share ≤ 0) (λ c is. omega (arith, is)) cs none))

pub none_taken : (cs : List Candidate) → taken_of cs ≡ 0 → All (λ c. c.share ≡ 0) cs
none_taken cs none k d within = omega (arith, none, get_or-le-sum_by (λ (c : Candidate). c.share) cs k d within)
