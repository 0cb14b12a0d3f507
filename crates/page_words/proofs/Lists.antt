-- Lists: their last number, elements in order, and places.
use Rattle.std.proofs.Common.{◌≡◌, ◌⊎◌, ℕ, zero, suc, ◌≤◌, eqb, cond, List, [], ◌∷◌, ◌++◌, length, get_or, refl, sym, ap, subst, inl, inr, ⊎_elim, arith, eq-eqb, length-append}
use Rattle.std.specs.List.{Contains, AllPairs, count_by}
use Rattle.std.proofs.lemmas.List.Elements.{Contains-append_right, Contains-get_or}
use Rattle.std.proofs.lemmas.List.Sums.{sum_by-cons}
use mathlib.Core.Option.{some, some-injective, some-ne-none}
use lib.ListN.{get_elem?}
use Rattle.page_words.specs.Clears.{last_of}

-- where a list with y at its end is cut at z, y is z, or the cut is in the list
pub split_last : {A : Type 0} (xs : List A) (y z : A) (before after : List A) → xs ++ y ∷ [] ≡ before ++ z ∷ after
    → ((y ≡ z) × (xs ≡ before)) ⊎ ((rest : List A) × (xs ≡ before ++ z ∷ rest))
split_last [] y z [] after e = inl (cc, refl)
split_last [] y z (b ∷ bs) after e = let l = ap length e in absurd (omega (arith, length-append bs (z ∷ after)))
split_last (x ∷ xs) y z [] after e = inr (xs, cc)
split_last (x ∷ xs) y z (b ∷ bs) after e =
    ⊎_elim
    (λ (t : (y ≡ z) × (xs ≡ bs)). inl (t.0, cc))
    (λ (t : (rest : List _) × (xs ≡ bs ++ z ∷ rest)). inr (t.0, cc))
    (split_last xs y z bs after (cc))

pub contains_none : {A : Type 0} (x : A) → Contains [] x → ⊥
contains_none x h = let l = h.1 in omega arith

pub contains_one : {A : Type 0} (a x : A) → Contains (a ∷ []) x → a ≡ x
contains_one a x (zero, l, e) = e
contains_one a x (suc k, l, e) = absurd (omega arith)

pub contains_head : {A : Type 0} (x : A) (xs : List A) → Contains (x ∷ xs) x
contains_head x xs = (0, omega arith, refl)

pub contains_tail : {A : Type 0} (y : A) (xs : List A) (x : A) → Contains xs x → Contains (y ∷ xs) x
contains_tail y xs x h = Contains-append_right (y ∷ []) xs x h

pub contains_cases : {A : Type 0} (y : A) (xs : List A) (x : A) → Contains (y ∷ xs) x → (y ≡ x) ⊎ Contains xs x
contains_cases y xs x (zero, l, e) = inl e
contains_cases y xs x (suc k, l, e) = inr (k, omega arith, e)

module _ {A : Type 0} (R : A → A → Type 0) where
  pub pairs_tail : (x : A) (xs : List A) → AllPairs R (x ∷ xs) → AllPairs R xs
  pairs_tail x xs all i j d lt within = all (suc i) (suc j) d (omega arith) (omega arith)

  pub pairs_head : (x : A) (xs : List A) (y : A) → AllPairs R (x ∷ xs) → Contains xs y → R x y
  pairs_head x xs y all (k, l, e) = subst (R x) e (all 0 (suc k) y (omega arith) (omega arith))

  pub pairs_cons : (x : A) (xs : List A) → ((y : A) → Contains xs y → R x y) → AllPairs R xs → AllPairs R (x ∷ xs)
  pairs_cons x xs head tail zero zero d lt within = absurd (omega arith)
  pairs_cons x xs head tail zero (suc j) d lt within = head (get_or xs j d) (Contains-get_or xs j d (omega arith))
  pairs_cons x xs head tail (suc i) zero d lt within = absurd (omega arith)
  pairs_cons x xs head tail (suc i) (suc j) d lt within = tail i j d (omega arith) (omega arith)

pub last_of-push : (ns : List ℕ) (n : ℕ) → last_of (ns ++ n ∷ []) ≡ n
last_of-push [] n = refl
last_of-push (m ∷ []) n = refl
last_of-push (m ∷ k ∷ ns) n = last_of-push (k ∷ ns) n

pub last_of-contained : (n : ℕ) (ns : List ℕ) → Contains (n ∷ ns) (last_of (n ∷ ns))
last_of-contained n [] = contains_head n []
last_of-contained n (m ∷ ns) = contains_tail n (m ∷ ns) _ (last_of-contained m ns)

-- the last number is 0, or one of them
pub last_of-cases : (ns : List ℕ) → (last_of ns ≡ 0) ⊎ Contains ns (last_of ns)
last_of-cases [] = inl refl
last_of-cases (n ∷ ns) = inr (last_of-contained n ns)

-- no number is above the last where they never fall
pub below_last : (ns : List ℕ) (n : ℕ) → AllPairs (λ a b. a ≤ b) ns → Contains ns n → n ≤ last_of ns
below_last [] n rise h = absurd (contains_none n h)
below_last (m ∷ []) n rise h = let e = contains_one m n h in omega arith
below_last (m ∷ k ∷ ns) n rise h = ⊎_elim
    (λ (e : m ≡ n). let l = pairs_head (λ a b. a ≤ b) m (k ∷ ns) (last_of (k ∷ ns)) rise (last_of-contained k ns) in omega arith)
    (λ (t : Contains (k ∷ ns) n). below_last (k ∷ ns) n (pairs_tail (λ a b. a ≤ b) m (k ∷ ns) rise) t)
    (contains_cases m (k ∷ ns) n h)

-- a number that stands at a place is the one that is read there
pub index_of_found : (ns : List ℕ) (i n : ℕ) → get_elem? ns i ≡ some n → n ≡ get_or ns i 0
index_of_found [] i n e = absurd (some-ne-none n (sym e))
index_of_found (m ∷ ns) zero n e = sym (some-injective m n e)
index_of_found (m ∷ ns) (suc i) n e = index_of_found ns i n e

-- what is in a list is counted
pub count-contained : (n : ℕ) (ns : List ℕ) → Contains ns n → 1 ≤ count_by (λ m. eqb m n) ns
count-contained n [] h = absurd (contains_none n h)
count-contained n (m ∷ ns) h =
    let f : ℕ → ℕ = λ k. cond (eqb k n) 1 0 in
    let parts = sum_by-cons f m ns in
    ⊎_elim
    (λ (e : m ≡ n). let one : f m ≡ 1 = ap (λ b. cond b 1 0) (eq-eqb m n e) in omega (arith, parts, one))
    (λ (t : Contains ns n). let more = count-contained n ns t in omega (arith, parts, more))
    (contains_cases m ns n h)
