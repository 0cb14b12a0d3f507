-- Of the candidates that are chosen, at most one is taken in part.
use Rattle.std.proofs.Common.{◌≡◌, ℕ, zero, suc, ◌+◌, ◌≤◌, ◌<◌, Bool, true, false, List, [], ◌∷◌, Option, Some, None, get_or, refl, sym, ap, ◌∙◌, subst, arith}
use Rattle.std.specs.Prelude.{All, Contains, IsPermutation, filter, sum_by}
use Rattle.std.specs.Option.{option_map}
use Rattle.std.proofs.lemmas.Bool.{false≢true}
use Rattle.std.proofs.lemmas.Bool.Decides.{nat_tests}
use Rattle.std.proofs.lemmas.List.Elements.{All-contains, All-contains_itself, All-map, All-weaker}
use Rattle.std.proofs.lemmas.List.Sorted.{All-permutation}
use Rattle.std.proofs.lemmas.List.Sums.{sum_by-cons}
use Rattle.std.proofs.lemmas.Option.{slice_get-map}
use Rattle.damon_types.specs.declared.row.Row.{Row}
use Rattle.damon_types.specs.Span.{span_of, spans}
use Rattle.priority.specs.declared.candidates.Candidate.{Candidate}
use Rattle.priority.specs.Order.{is_before, InPriority}
use Rattle.priority.specs.Share.{share_after, with_share, with_shares}
use Rattle.scheme_engine.specs.Applying.{IsCandidateOf}
use Rattle.scheme_engine.specs.Kept.{IsInPart, OneInPart}
use Rattle.scheme_engine.proofs.GatherLemmas.{HasRow}

-- a candidate with its share of what is left
pub record IsShared (left : Option ℕ) (cs : List Candidate) (d : Candidate) : Type 0 where
  pub candidate : Candidate
  pub among : Contains cs candidate
  pub is : d ≡ with_share left cs candidate

pub all_shared : (left : Option ℕ) (cs ds : List Candidate) → IsPermutation (with_shares left cs) ds → All (IsShared left cs) ds
all_shared left cs ds same =
    All-permutation (IsShared left cs) (with_shares left cs) ds same
    (All-map (IsShared left cs) (with_share left cs) cs
    (All-weaker (Contains cs) (λ y. IsShared left cs (with_share left cs y)) (λ y among. record { candidate = y; among = among; is = refl }) cs (All-contains_itself cs)))

-- a sum over a larger part of a list
sum_within : (p q : Candidate → Bool) → ((c : Candidate) → p c ≡ true → q c ≡ true) → (xs : List Candidate) → sum_by (λ c. c.passing) (filter p xs) ≤ sum_by (λ c. c.passing) (filter q xs)
sum_within p q less [] = omega arith
sum_within p q less (x ∷ xs) = by (p x) (q x) refl refl (sum_within p q less xs)
  where
    by : (v w : Bool) → p x ≡ v → q x ≡ w → sum_by (λ c. c.passing) (filter p xs) ≤ sum_by (λ c. c.passing) (filter q xs) → sum_by (λ c. c.passing) (filter p (x ∷ xs)) ≤ sum_by (λ c. c.passing) (filter q (x ∷ xs))
    by true true one two rest = rw (one, two) (omega (arith, rest, sum_by-cons (λ (c : Candidate). c.passing) x (filter p xs), sum_by-cons (λ (c : Candidate). c.passing) x (filter q xs)))
    by true false one two rest = absurd (false≢true (sym two ∙ less x one))
    by false true one two rest = rw (one, two) (omega (arith, rest, sum_by-cons (λ (c : Candidate). c.passing) x (filter q xs)))
    by false false one two rest = rw (one, two) rest

-- and one that has an item more
sum_with : (p q : Candidate → Bool) → ((c : Candidate) → p c ≡ true → q c ≡ true) → (xs : List Candidate) (y : Candidate) → Contains xs y → p y ≡ false → q y ≡ true → sum_by (λ c. c.passing) (filter p xs) + y.passing ≤ sum_by (λ c. c.passing) (filter q xs)
sum_with p q less [] y among not is = absurd (omega (arith, among.1))
sum_with p q less (x ∷ xs) y (zero, within, at) not is =
    let same : x ≡ y = at in
    let one : p x ≡ false = ap p same ∙ not in
    let two : q x ≡ true = ap q same ∙ is in
    let rest = sum_within p q less xs in
    let total = sum_by-cons (λ (c : Candidate). c.passing) x (filter q xs) in
    let pages = ap (λ (c : Candidate). c.passing) same in
    rw (one, two) (omega (arith, rest, total, pages))
sum_with p q less (x ∷ xs) y (suc k, within, at) not is = by (p x) (q x) refl refl (sum_with p q less xs y (k, omega arith, at) not is)
  where
    Sums : Type 0
    Sums = sum_by (λ c. c.passing) (filter p xs) + y.passing ≤ sum_by (λ c. c.passing) (filter q xs)

    by : (v w : Bool) → p x ≡ v → q x ≡ w → Sums → sum_by (λ c. c.passing) (filter p (x ∷ xs)) + y.passing ≤ sum_by (λ c. c.passing) (filter q (x ∷ xs))
    by true true one two rest = rw (one, two) (omega (arith, rest, sum_by-cons (λ (c : Candidate). c.passing) x (filter p xs), sum_by-cons (λ (c : Candidate). c.passing) x (filter q xs)))
    by true false one two rest = absurd (false≢true (sym two ∙ less x one))
    by false true one two rest = rw (one, two) (omega (arith, rest, sum_by-cons (λ (c : Candidate). c.passing) x (filter q xs)))
    by false false one two rest = rw (one, two) rest

before_rises : (c d : Candidate) → is_before c d ≡ true → (s : Candidate) → is_before s c ≡ true → is_before s d ≡ true
before_rises c d one s two = grind (arith, nat_tests)

not_before_itself : (c : Candidate) → is_before c c ≡ false
not_before_itself c = grind (arith, nat_tests)

-- what is taken in part uses up what is left
uses_up : (left : Option ℕ) (before passing : ℕ) → 0 < share_after left before passing → share_after left before passing < passing → (n : ℕ) × (left ≡ Some n) × (before < n) × (n < before + passing)
uses_up None before passing some less = absurd (omega arith)
uses_up (Some n) before passing some less = (n, refl, omega arith, omega arith)

two_in_part : (left : Option ℕ) (cs : List Candidate) (c d : Candidate) → IsShared left cs c → IsShared left cs d → is_before c d ≡ true → IsInPart c → IsInPart d → ⊥
two_in_part left cs c d first second order one two =
    let y = first.candidate in
    let z = second.candidate in
    let ordered : is_before y z ≡ true = ap (λ (x : Candidate). is_before x z) (sym first.is) ∙ ap (λ (x : Candidate). is_before c x) (sym second.is) ∙ order in
    let up = uses_up left (sum_by (λ (s : Candidate). s.passing) (filter (λ s. is_before s y) cs)) y.passing (subst (λ (x : Candidate). 0 < x.share) first.is one.0) (subst (λ (x : Candidate). x.share < x.passing) first.is one.1) in
    let after = uses_up left (sum_by (λ (s : Candidate). s.passing) (filter (λ s. is_before s z) cs)) z.passing (subst (λ (x : Candidate). 0 < x.share) second.is two.0) (subst (λ (x : Candidate). x.share < x.passing) second.is two.1) in
    let sums = sum_with (λ s. is_before s y) (λ s. is_before s z) (before_rises y z ordered) cs y first.among (not_before_itself y) ordered in
    let same : up.0 ≡ after.0 = let e : Some up.0 ≡ Some after.0 = sym up.1 ∙ after.1 in cc in
    omega (arith, sums, up.3, after.2, same)

pub one_in_part : (left : Option ℕ) (cs ds : List Candidate) → IsPermutation (with_shares left cs) ds → InPriority ds → OneInPart ds
one_in_part left cs ds same order i j d before within one two =
    let shared = all_shared left cs ds same in
    two_in_part left cs (get_or ds i d) (get_or ds j d) (shared i d (omega arith)) (shared j d within) (order i j d before within) one two

-- the candidates that are chosen are those of rows
pub chosen_have_rows : (left : Option ℕ) (passes : ℕ → Bool) (rows : List Row) (cs ds : List Candidate) → All (HasRow passes rows) cs → IsPermutation (with_shares left cs) ds → All (λ c. c.share ≤ c.passing) ds → All (IsCandidateOf passes (spans rows)) ds
chosen_have_rows left passes rows cs ds rows_of same shares = λ k d within.
    let is = all_shared left cs ds same k d within in
    let has = All-contains (HasRow passes rows) cs is.candidate rows_of is.among in
    let share = shares k d within in
    record {
      index = has.index;
      span = span_of has.row;
      at = slice_get-map span_of rows has.index ∙ ap (λ o. option_map span_of o) has.at;
      start = ap (λ (c : Candidate). c.start) is.is ∙ has.is.start;
      target = ap (λ (c : Candidate). c.target) is.is ∙ has.is.target;
      passing = ap (λ (c : Candidate). c.passing) is.is ∙ has.is.passing;
      some = omega (arith, ap (λ (c : Candidate). c.passing) is.is, has.is.some);
      share = share;
    }
