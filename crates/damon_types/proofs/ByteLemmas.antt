-- The pages of bytes.
use Rattle.std.proofs.Common.{◌≡◌, ℕ, zero, suc, ◌+◌, ◌-◌, ◌*◌, ◌/◌, ◌<◌, ◌≤◌, List, [], ◌∷◌, take, Some, None, refl, ap, arith, nat_le}
use Rattle.std.specs.Prelude.{Option, slice_get, ◌&&◌, nat_lt}
use Rattle.std.proofs.lemmas.Bool.Decides.{nat_tests}
use Rattle.std.proofs.lemmas.List.Sums.{sum_by-cons}
use Rattle.std.proofs.lemmas.Option.{cond_some}
use Rattle.damon_types.specs.declared.space.Target.{Target}
use Rattle.damon_types.specs.Space.{pages_of, offset, page_of, page_in}

-- the pages of a target are among those of all targets
offset-end : (ts : List Target) (i : ℕ) (t : Target) → slice_get ts i ≡ Some t → offset ts i + t.pages ≤ pages_of ts
offset-end [] i t is = absurd cc
offset-end (u ∷ us) zero t is =
    let held : u ≡ t = cc in
    let same : u.pages ≡ t.pages = ap (λ (v : Target). v.pages) held in
    let all : pages_of (u ∷ us) ≡ u.pages + pages_of us = sum_by-cons (λ (v : Target). v.pages) u us in
    omega arith
offset-end (u ∷ us) (suc i) t is =
    let below = offset-end us i t is in
    let all : pages_of (u ∷ us) ≡ u.pages + pages_of us = sum_by-cons (λ (v : Target). v.pages) u us in
    let before : offset (u ∷ us) (suc i) ≡ u.pages + offset us i = sum_by-cons (λ (v : Target). v.pages) u (take i us) in
    omega arith

-- the page of a byte is one of the pages of all targets
pub page_of-below : (ts : List Target) (i addr page : ℕ) → page_of ts i addr ≡ Some page → page < pages_of ts
page_of-below ts i addr page e = by (slice_get ts i) refl e
  where
    by : (o : Option Target) → slice_get ts i ≡ o → page_in (offset ts i) addr o ≡ Some page → page < pages_of ts
    by None is found = absurd cc
    by (Some t) is found =
        let most = offset-end ts i t is in
        let held = cond_some (nat_le t.base addr && nat_lt addr (t.base + 4096 * t.pages)) (offset ts i + (addr - t.base) / 4096) page found in
        let inside : (t.base ≤ addr) × (addr < t.base + 4096 * t.pages) = grind (arith, nat_tests) in
        omega arith

-- of two bytes of a target the one with the greater address lies in no earlier page
pub page_of-rises : (ts : List Target) (i a b p q : ℕ) → page_of ts i a ≡ Some p → page_of ts i b ≡ Some q → a ≤ b → p ≤ q
page_of-rises ts i a b p q first second le = by (slice_get ts i) first second
  where
    by : (o : Option Target) → page_in (offset ts i) a o ≡ Some p → page_in (offset ts i) b o ≡ Some q → p ≤ q
    by None f s = absurd cc
    by (Some t) f s =
        let held_a = cond_some (nat_le t.base a && nat_lt a (t.base + 4096 * t.pages)) (offset ts i + (a - t.base) / 4096) p f in
        let held_b = cond_some (nat_le t.base b && nat_lt b (t.base + 4096 * t.pages)) (offset ts i + (b - t.base) / 4096) q s in
        let inside : (t.base ≤ a) × (t.base ≤ b) = grind (arith, nat_tests) in
        omega arith
