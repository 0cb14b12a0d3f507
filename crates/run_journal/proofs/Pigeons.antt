-- Numbers that rise are at most as many as a list that has each of them.
use Rattle.std.proofs.Common.{◌≡◌, ⊎_elim, ℕ, suc, ◌+◌, ◌≤◌, ◌<◌, Bool, true, false, cond, List, [], ◌∷◌, length, nat_lt, subst, sym, arith}
use Rattle.std.specs.Prelude.{filter}
use Rattle.std.specs.List.{AllByRecursion, Contains}
use Rattle.std.proofs.lemmas.Bool.Decides.{nat_tests}
use Rattle.run_journal.proofs.Settling.{cases, head, tail}

-- numbers that rise strictly, the first being at least n
abbrev pub Rise : ℕ → List ℕ → Type 0
Rise n [] = Unit {0}
Rise n (p ∷ ps) = (n ≤ p) × Rise (p + 1) ps

pub rise_later : (low n : ℕ) (ps : List ℕ) → low ≤ n → Rise n ps → Rise low ps
rise_later low n [] below rise = tt
rise_later low n (p ∷ ps) below rise = (omega (arith, below, rise.0), rise.1)

-- those of a list that are above p
above : ℕ → List ℕ → List ℕ
above p ts = filter (nat_lt p) ts

above_few : (p : ℕ) (ts : List ℕ) → length (above p ts) ≤ length ts
unfolding above
above_few p [] = omega arith
above_few p (t ∷ ts) = by_test (nat_lt p t) (above_few p ts)
  where
    by_test : (b : Bool) → length (filter (nat_lt p) ts) ≤ length ts → length (cond b (t ∷ filter (nat_lt p) ts) (filter (nat_lt p) ts)) ≤ suc (length ts)
    by_test true few = omega (arith, few)
    by_test false few = omega (arith, few)

not_above : (p t : ℕ) → t ≡ p → nat_lt p t ≡ false
not_above p t same = grind (arith, nat_tests)

is_above : (p t : ℕ) → p < t → nat_lt p t ≡ true
is_above p t below = grind (arith, nat_tests)

-- p itself is not above p
above_fewer : (p : ℕ) (ts : List ℕ) → Contains ts p → length (above p ts) + 1 ≤ length ts
unfolding above
above_fewer p [] (k, below, is) = absurd (omega arith)
above_fewer p (t ∷ ts) there = ⊎_elim (λ same. first same) (λ later. other (nat_lt p t) (above_fewer p ts later)) (cases t ts p there)
  where
    first : t ≡ p → length (filter (nat_lt p) (t ∷ ts)) + 1 ≤ suc (length ts)
    first same = subst (λ b. length (cond b (t ∷ filter (nat_lt p) ts) (filter (nat_lt p) ts)) + 1 ≤ suc (length ts)) (sym (not_above p t same)) (omega (arith, above_few p ts))

    other : (b : Bool) → length (filter (nat_lt p) ts) + 1 ≤ length ts → length (cond b (t ∷ filter (nat_lt p) ts) (filter (nat_lt p) ts)) + 1 ≤ suc (length ts)
    other true few = omega (arith, few)
    other false few = omega (arith, few)

kept_above : (p q : ℕ) (ts : List ℕ) → p < q → Contains ts q → Contains (above p ts) q
unfolding above
kept_above p q [] below (k, within, is) = absurd (omega (arith, within))
kept_above p q (t ∷ ts) below there = ⊎_elim (λ same. first same) (λ later. other (nat_lt p t) (kept_above p q ts below later)) (cases t ts q there)
  where
    first : t ≡ q → Contains (filter (nat_lt p) (t ∷ ts)) q
    first same = subst (λ b. Contains (cond b (t ∷ filter (nat_lt p) ts) (filter (nat_lt p) ts)) q) (sym (is_above p t (omega (arith, same, below)))) (subst (λ x. Contains (x ∷ filter (nat_lt p) ts) q) (sym same) (head q (filter (nat_lt p) ts)))

    other : (b : Bool) → Contains (filter (nat_lt p) ts) q → Contains (cond b (t ∷ filter (nat_lt p) ts) (filter (nat_lt p) ts)) q
    other true found = tail t (filter (nat_lt p) ts) q found
    other false found = found

all_above : (p n : ℕ) (ps ts : List ℕ) → p < n → Rise n ps → AllByRecursion (Contains ts) ps → AllByRecursion (Contains (above p ts)) ps
all_above p n [] ts below rise all = tt
all_above p n (q ∷ ps) ts below rise all = (kept_above p q ts (omega (arith, below, rise.0)) all.0, all_above p (q + 1) ps ts (omega (arith, below, rise.0)) rise.1 all.1)

pub risen_are_few : (n : ℕ) (ps ts : List ℕ) → Rise n ps → AllByRecursion (Contains ts) ps → length ps ≤ length ts
risen_are_few n [] ts rise all = omega arith
risen_are_few n (p ∷ ps) ts rise all =
    omega (arith, risen_are_few (p + 1) ps (above p ts) rise.1 (all_above p (p + 1) ps ts (omega arith) rise.1 all.1), above_fewer p ts all.0)
