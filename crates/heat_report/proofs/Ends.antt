-- The least and the greatest of a list.
use Rattle.std.proofs.Common.{◌≡◌, ◌⊎◌, inl, inr, ℕ, zero, suc, ◌≤◌, ◌<◌, Bool, true, false, List, [], ◌∷◌, refl, sym, ap, ◌∙◌, subst, arith}
use Rattle.std.specs.Prelude.{cond, filter, max, min, All, Contains}
use Rattle.std.proofs.lemmas.Bool.{cases_lt}
use Rattle.std.proofs.lemmas.List.Elements.{All-cons, All-contains, All-contains_itself, All-filter, All-nil, All-weaker, filter_passes}
use Rattle.region_list.specs.Shrink.{least}
use Rattle.heat_report.specs.Sizes.{greatest}

-- the first is in the list, and what is in the rest is
pub contains_first : (x : ℕ) (xs : List ℕ) → Contains (x ∷ xs) x
contains_first x xs = (0, omega arith, refl)

pub contains_later : (y x : ℕ) (xs : List ℕ) → Contains xs x → Contains (y ∷ xs) x
contains_later y x xs (k, within, is) = (suc k, omega (arith, within), is)

-- m is in the list, and no number of the list is less
pub record IsLeast (ns : List ℕ) (m : ℕ) : Type 0 where
  pub member : Contains ns m
  pub low : All (λ n. m ≤ n) ns

pub record IsGreatest (ns : List ℕ) (m : ℕ) : Type 0 where
  pub member : Contains ns m
  pub high : All (λ n. n ≤ m) ns

pub least_once : (ns : List ℕ) (a b : ℕ) → IsLeast ns a → IsLeast ns b → a ≡ b
least_once ns a b first second =
    omega (arith, All-contains (λ n. a ≤ n) ns b first.low second.member, All-contains (λ n. b ≤ n) ns a second.low first.member)

pub greatest_once : (ns : List ℕ) (a b : ℕ) → IsGreatest ns a → IsGreatest ns b → a ≡ b
greatest_once ns a b first second =
    omega (arith, All-contains (λ n. n ≤ a) ns b first.high second.member, All-contains (λ n. n ≤ b) ns a second.high first.member)

pub least_is : (n : ℕ) (ns : List ℕ) → IsLeast (n ∷ ns) (least (n ∷ ns))
least_is n [] = record { member = contains_first n []; low = All-cons (λ m. n ≤ m) n [] (omega arith) (All-nil (λ m. n ≤ m)) }
least_is n (o ∷ os) = by (least_is o os) (cases_lt n (least (o ∷ os)))
  where
    by : IsLeast (o ∷ os) (least (o ∷ os)) → (n < least (o ∷ os)) ⊎ (least (o ∷ os) ≤ n) → IsLeast (n ∷ o ∷ os) (min n (least (o ∷ os)))
    by rest (inl less) =
        let is : min n (least (o ∷ os)) ≡ n = omega (arith, less) in
        subst (IsLeast (n ∷ o ∷ os)) (sym is) (record {
          member = contains_first n (o ∷ os);
          low = All-cons (λ m. n ≤ m) n (o ∷ os) (omega arith) (All-weaker (λ m. least (o ∷ os) ≤ m) (λ m. n ≤ m) (λ m low. omega (arith, low, less)) (o ∷ os) rest.low);
        })
    by rest (inr more) =
        let is : min n (least (o ∷ os)) ≡ least (o ∷ os) = omega (arith, more) in
        subst (IsLeast (n ∷ o ∷ os)) (sym is) (record {
          member = contains_later n (least (o ∷ os)) (o ∷ os) rest.member;
          low = All-cons (λ m. least (o ∷ os) ≤ m) n (o ∷ os) more rest.low;
        })

pub greatest_is : (n : ℕ) (ns : List ℕ) → IsGreatest (n ∷ ns) (greatest (n ∷ ns))
greatest_is n [] =
    let is : max n 0 ≡ n = omega arith in
    subst (IsGreatest (n ∷ [])) (sym is) (record { member = contains_first n []; high = All-cons (λ m. m ≤ n) n [] (omega arith) (All-nil (λ m. m ≤ n)) })
greatest_is n (o ∷ os) = by (greatest_is o os) (cases_lt n (greatest (o ∷ os)))
  where
    by : IsGreatest (o ∷ os) (greatest (o ∷ os)) → (n < greatest (o ∷ os)) ⊎ (greatest (o ∷ os) ≤ n) → IsGreatest (n ∷ o ∷ os) (max n (greatest (o ∷ os)))
    by rest (inl less) =
        let is : max n (greatest (o ∷ os)) ≡ greatest (o ∷ os) = omega (arith, less) in
        subst (IsGreatest (n ∷ o ∷ os)) (sym is) (record {
          member = contains_later n (greatest (o ∷ os)) (o ∷ os) rest.member;
          high = All-cons (λ m. m ≤ greatest (o ∷ os)) n (o ∷ os) (omega (arith, less)) rest.high;
        })
    by rest (inr more) =
        let is : max n (greatest (o ∷ os)) ≡ n = omega (arith, more) in
        subst (IsGreatest (n ∷ o ∷ os)) (sym is) (record {
          member = contains_first n (o ∷ os);
          high = All-cons (λ m. m ≤ n) n (o ∷ os) (omega arith) (All-weaker (λ m. m ≤ greatest (o ∷ os)) (λ m. m ≤ n) (λ m high. omega (arith, high, more)) (o ∷ os) rest.high);
        })

-- what passes a test is in the list and passes
pub filter_contains : (p : ℕ → Bool) (xs : List ℕ) (x : ℕ) → Contains (filter p xs) x → Contains xs x × (p x ≡ true)
filter_contains p xs x inside = (
  All-contains (Contains xs) (filter p xs) x (All-filter p (Contains xs) xs (All-contains_itself xs)) inside,
  All-contains (λ y. p y ≡ true) (filter p xs) x (filter_passes p xs) inside,
)

-- what is in the list and passes is among those that pass
pub contains_filter : (p : ℕ → Bool) (xs : List ℕ) (x : ℕ) → Contains xs x → p x ≡ true → Contains (filter p xs) x
contains_filter p [] x (k, within, is) passes = absurd (omega (arith, within))
contains_filter p (y ∷ xs) x (zero, within, is) passes =
    let here : p y ≡ true = ap p is ∙ passes in
    subst (λ z. Contains (filter p (y ∷ xs)) z) is (rw here (contains_first y (filter p xs)))
contains_filter p (y ∷ xs) x (suc k, within, is) passes = by (p y) (contains_filter p xs x (k, omega (arith, within), is) passes)
  where
    by : (v : Bool) → Contains (filter p xs) x → Contains (cond v (y ∷ filter p xs) (filter p xs)) x
    by true inside = contains_later y x (filter p xs) inside
    by false inside = inside
