-- Shares have a certificate, and a choice with a certificate is the best.
use Rattle.std.proofs.Common.{◌≡◌, ◌⊎◌, inl, inr, ℕ, ◌+◌, ◌-◌, ◌*◌, ◌<◌, ◌≤◌, Bool, true, false, cond, List, [], ◌∷◌, Option, Some, None, length, take, drop, refl, sym, ap, ◌∙◌, subst, arith}
use Rattle.std.specs.Prelude.{slice_index_or, sum, sum_by, zip, All, IfSome}
use Rattle.std.specs.List.{AllZip}
use Rattle.std.proofs.Math.Nat.{mul-le-mul_left, mul-le-mul_right, add-mul}
use Rattle.std.proofs.lemmas.Bool.{cases_lt}
use Rattle.std.proofs.lemmas.Bool.Decides.{nat_tests}
use Rattle.std.proofs.lemmas.List.Elements.{All-head, All-tail, All-map, All-weaker}
use Rattle.std.proofs.lemmas.List.Sums.{sum_by-cons, sum-map, sum_by-take-drop, sum_by-drop_more, sum_by-le-sum_by}
use Rattle.priority.specs.declared.candidates.Candidate.{Candidate}
use Rattle.priority.specs.Candidates.{DistinctStarts}
use Rattle.priority.specs.Order.{is_before}
use Rattle.priority.specs.Share.{with_share, with_shares}
use Rattle.priority.specs.Chosen.{taken_of, lowest_of}
use Rattle.priority.specs.Best.{IsChoice, sum_of_scores, shares_of, IsBest, TakesHighest, IsCertified}
use Rattle.priority.proofs.OrderLemmas.{before_itself, before_third}
use Rattle.priority.proofs.ShareLemmas.{counted, before_is, passing_before, shares_fit}
use Rattle.priority.proofs.LowestLemmas.{IsLowest, lowest_is, lowest_bound, taken_none}
use Rattle.priority.proofs.TakenLemmas.{taken_is, taken_within}
use Rattle.priority.proofs.WalkLemmas.{passing_of}

-- a sum of lesser terms, of which one is less by n
sum_less : (f g : Candidate → ℕ) (cs : List Candidate) (k : ℕ) (d : Candidate) (n : ℕ) → ((c : Candidate) → f c ≤ g c) → k < length cs → f (slice_index_or cs k d) + n ≤ g (slice_index_or cs k d) → sum_by f cs + n ≤ sum_by g cs
sum_less f g cs k d n less within here =
    omega
    (arith, here, sum_by-take-drop f cs k, sum_by-take-drop g cs k, sum_by-drop_more f cs k d within, sum_by-drop_more g cs k d within, sum_by-le-sum_by f g (take k cs) less, sum_by-le-sum_by f g (drop (k + 1) cs) less)

-- the passing pages of a candidate and of those before it
pub all_before : (cs : List Candidate) (k : ℕ) (d : Candidate) → k < length cs → passing_before cs (slice_index_or cs k d) + (slice_index_or cs k d).passing ≤ sum_by passing_of cs
all_before cs k d within =
    let r = slice_index_or cs k d in
    let here : counted r r ≡ 0 = ap (λ v. cond v r.passing 0) (before_itself r) in
    omega (arith, before_is cs r, sum_less (counted r) passing_of cs k d r.passing (λ c. by (is_before c r) c.passing) within (omega (arith, here)))
  where
    by : (v : Bool) (n : ℕ) → cond v n 0 ≤ n
    by true n = omega arith
    by false n = omega arith

-- they all come before one that it comes before
more_before : (cs : List Candidate) (k : ℕ) (d s : Candidate) → k < length cs → is_before (slice_index_or cs k d) s ≡ true → passing_before cs (slice_index_or cs k d) + (slice_index_or cs k d).passing ≤ passing_before cs s
more_before cs k d s within first =
    let r = slice_index_or cs k d in
    let none : counted r r ≡ 0 = ap (λ v. cond v r.passing 0) (before_itself r) in
    let some : counted s r ≡ r.passing = ap (λ v. cond v r.passing 0) first in
    omega (arith, before_is cs r, before_is cs s, sum_less (counted r) (counted s) cs k d r.passing (λ c. by c r first (is_before c r) refl) within (omega (arith, none, some)))
  where
    by : (c r : Candidate) → is_before r s ≡ true → (v : Bool) → is_before c r ≡ v → cond v c.passing 0 ≤ counted s c
    by c r first true is = omega (arith, ap (λ v. cond v c.passing 0) (before_third c r s is first))
    by c r first false is = omega arith

-- a candidate with a page left out scores at most as much as one of which a page is taken
left_out_low : (n : ℕ) (cs : List Candidate) (k j : ℕ) (d e : Candidate) → k < length cs → j < length cs → (with_share (Some n) cs (slice_index_or cs k d)).share < (slice_index_or cs k d).passing → 0 < (with_share (Some n) cs (slice_index_or cs j e)).share → (slice_index_or cs k d).score ≤ (slice_index_or cs j e).score
left_out_low n cs k j d e within inside short some = by (cases_lt (slice_index_or cs j e).score (slice_index_or cs k d).score)
  where
    by : ((slice_index_or cs j e).score < (slice_index_or cs k d).score) ⊎ ((slice_index_or cs k d).score ≤ (slice_index_or cs j e).score) → (slice_index_or cs k d).score ≤ (slice_index_or cs j e).score
    by (inl less) =
        let first : is_before (slice_index_or cs k d) (slice_index_or cs j e) ≡ true = grind (arith, nat_tests) in
        absurd (omega (arith, short, some, more_before cs k d (slice_index_or cs j e) within first))
    by (inr more) = more

-- shares have a certificate
pub certified : (left : Option ℕ) (cs : List Candidate) → DistinctStarts cs → IsCertified left (with_shares left cs)
certified None cs distinct = All-map (λ (c : Candidate). c.share ≡ c.passing) (with_share None cs) cs (λ k d within. refl)
certified (Some n) cs distinct = by (cases_lt n (sum_by passing_of cs))
  where
    shares : List Candidate
    shares = with_shares (Some n) cs

    low : All (λ c. c.share < c.passing → IfSome (lowest_of shares) (λ lowest. c.score ≤ lowest)) shares
    low = All-map (λ (c : Candidate). c.share < c.passing → IfSome (lowest_of shares) (λ lowest. c.score ≤ lowest)) (with_share (Some n) cs) cs
        (λ k d within short. lowest_bound shares (slice_index_or cs k d).score (All-map (λ (c : Candidate). 0 < c.share → (slice_index_or cs k d).score ≤ c.score) (with_share (Some n) cs) cs (λ j e inside some. left_out_low n cs k j d e within inside short some)))

    by : (n < sum_by passing_of cs) ⊎ (sum_by passing_of cs ≤ n) → (All (λ (c : Candidate). c.share ≡ c.passing) shares) ⊎ TakesHighest n shares
    by (inl less) = inr (record { taken = omega (arith, less, taken_is n cs distinct); low = low })
    by (inr more) = inl (All-map (λ (c : Candidate). c.share ≡ c.passing) (with_share (Some n) cs) cs (λ k d within. omega (arith, more, all_before cs k d within)))

-- shares are a choice
numbers_fit : (cs : List Candidate) → All (λ c. c.share ≤ c.passing) cs → AllZip (λ c n. n ≤ c.passing) cs (shares_of cs)
numbers_fit [] all = tt
numbers_fit (c ∷ cs) all = let Fits : Candidate → Type 0 = λ x. x.share ≤ x.passing in (All-head Fits c cs all, numbers_fit cs (All-tail Fits c cs all))

pub is_choice : (left : Option ℕ) (cs : List Candidate) → DistinctStarts cs → IsChoice left (with_shares left cs) (shares_of (with_shares left cs))
is_choice left cs distinct = record {
  each = numbers_fit (with_shares left cs) (shares_fit left cs);
  within = subst (λ n. IfSome left (λ most. n ≤ most)) (sym (sum-map (λ (c : Candidate). c.share) (with_shares left cs))) (taken_within left cs distinct);
}

-- more pages at a score above a threshold, or fewer below it
exchange : (a b m s : ℕ) → a ≤ b → m ≤ s → a * s + b * m ≤ b * s + a * m
exchange a b m s more above =
    let whole : a + (b - a) ≡ b = omega (arith, more) in
    let at_s = ap (λ n. n * s) (sym whole) ∙ add-mul a (b - a) s in
    let at_m = ap (λ n. n * m) (sym whole) ∙ add-mul a (b - a) m in
    omega (arith, at_s, at_m, mul-le-mul_left (b - a) above)

-- one candidate against a threshold between the scores that are taken and those that are left out
weighed : (share passing score n m : ℕ) → n ≤ passing → (share < passing → score ≤ m) → (0 < share → m ≤ score) → n * score + share * m ≤ share * score + n * m
weighed share passing score n m other low high = by (cases_lt share n)
  where
    fewer : n ≤ share → (0 < share) ⊎ (share ≤ 0) → n * score + share * m ≤ share * score + n * m
    fewer more (inl some) = omega (arith, exchange n share m score more (high some))
    fewer more (inr none) =
        let no_other : n ≡ 0 = omega (arith, more, none) in
        let no_share : share ≡ 0 = omega (arith, none) in
        omega (arith, ap (λ k. k * score) no_other, ap (λ k. k * m) no_other, ap (λ k. k * m) no_share, ap (λ k. k * score) no_share)

    by : (share < n) ⊎ (n ≤ share) → n * score + share * m ≤ share * score + n * m
    by (inl less) = omega (arith, exchange share n score m (omega (arith, less)) (low (omega (arith, less, other))))
    by (inr more) = fewer more (cases_lt 0 share)

-- all candidates against it
all_weighed : (cs : List Candidate) (numbers : List ℕ) (m : ℕ) → AllZip (λ c n. n ≤ c.passing) cs numbers → All (λ c. c.share < c.passing → c.score ≤ m) cs → All (λ c. 0 < c.share → m ≤ c.score) cs → sum_of_scores cs numbers + taken_of cs * m ≤ sum_of_scores cs (shares_of cs) + sum numbers * m
all_weighed [] [] m each low high = omega arith
all_weighed [] (n ∷ numbers) m each low high = absurd each
all_weighed (c ∷ cs) [] m each low high = absurd each
all_weighed (c ∷ cs) (n ∷ numbers) m each low high =
    let Low : Candidate → Type 0 = λ x. x.share < x.passing → x.score ≤ m in
    let High : Candidate → Type 0 = λ x. 0 < x.share → m ≤ x.score in
    let of_one : Candidate × ℕ → ℕ = λ p. p.1 * p.0.score in
    let taken = ap (λ k. k * m) (sum_by-cons (λ (x : Candidate). x.share) c cs) ∙ add-mul c.share (taken_of cs) m in
    let other = ap (λ k. k * m) (sum_by-cons (λ (x : ℕ). x) n numbers) ∙ add-mul n (sum numbers) m in
    let one = weighed c.share c.passing c.score n m each.0 (All-head Low c cs low) (All-head High c cs high) in
    omega
    (arith, taken, other, one, sum_by-cons of_one (c, n) (zip cs numbers), sum_by-cons of_one (c, c.share) (zip cs (shares_of cs)), all_weighed cs numbers m each.1 (All-tail Low c cs low) (All-tail High c cs high))

-- numbers whose sum is 0 have the sum of scores 0
no_scores : (cs : List Candidate) (numbers : List ℕ) → sum numbers ≡ 0 → sum_of_scores cs numbers ≡ 0
no_scores [] numbers none = refl
no_scores (c ∷ cs) [] none = refl
no_scores (c ∷ cs) (n ∷ numbers) none =
    let of_one : Candidate × ℕ → ℕ = λ p. p.1 * p.0.score in
    let parts = sum_by-cons (λ (x : ℕ). x) n numbers in
    let no : n ≡ 0 = omega (arith, parts, none) in
    omega (arith, sum_by-cons of_one (c, n) (zip cs numbers), ap (λ k. k * c.score) no, no_scores cs numbers (omega (arith, parts, none)))

-- a choice with a certificate is the best
pub best : (left : Option ℕ) (cs : List Candidate) → IsChoice left cs (shares_of cs) → IsCertified left cs → IsBest left cs
best left cs choice certificate = record { choice = choice; most = most left certificate }
  where
    all : (All (λ (c : Candidate). c.share ≡ c.passing) cs) → (numbers : List ℕ) → AllZip (λ c n. n ≤ c.passing) cs numbers → sum_of_scores cs numbers ≤ sum_of_scores cs (shares_of cs)
    all whole numbers each =
        let low = All-weaker (λ (c : Candidate). c.share ≡ c.passing) (λ (c : Candidate). c.share < c.passing → c.score ≤ 0) (λ c is less. absurd (omega (arith, is, less))) cs whole in
        omega (arith, all_weighed cs numbers 0 each low (λ k d within some. omega arith))

    some : (n : ℕ) → TakesHighest n cs → (lowest : Option ℕ) → lowest_of cs ≡ lowest → IsLowest cs lowest → (numbers : List ℕ) → AllZip (λ c n. n ≤ c.passing) cs numbers → sum numbers ≤ n → sum_of_scores cs numbers ≤ sum_of_scores cs (shares_of cs)
    some n takes None is none numbers each within =
        omega (arith, no_scores cs numbers (omega (arith, taken_none cs none, takes.taken, within)))
    some n takes (Some m) is least numbers each within =
        let low = subst (λ o. All (λ c. c.share < c.passing → IfSome o (λ l. c.score ≤ l)) cs) is takes.low in
        omega (arith, all_weighed cs numbers m each low least.0, mul-le-mul_right m within, ap (λ k. k * m) takes.taken)

    most : (left : Option ℕ) → IsCertified left cs → (numbers : List ℕ) → IsChoice left cs numbers → sum_of_scores cs numbers ≤ sum_of_scores cs (shares_of cs)
    most None whole numbers other = all whole numbers other.each
    most (Some n) (inl whole) numbers other = all whole numbers other.each
    most (Some n) (inr takes) numbers other = some n takes (lowest_of cs) refl (lowest_is cs) numbers other.each other.within

pub shares_best : (left : Option ℕ) (cs : List Candidate) → DistinctStarts cs → IsBest left (with_shares left cs)
shares_best left cs distinct = best left (with_shares left cs) (is_choice left cs distinct) (certified left cs distinct)
