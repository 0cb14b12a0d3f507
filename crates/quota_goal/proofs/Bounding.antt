-- Parts of bytes, and what lies between bounds.
use Rattle.std.proofs.Common.{◌≡◌, ℕ, ◌+◌, ◌-◌, ◌*◌, ◌/◌, ◌≤◌, ◌<◌, true, false, refl, arith}
use Rattle.std.specs.Prelude.{min, max, nat_lt}
use Rattle.std.proofs.lemmas.Bool.Decides.{nat_tests}
use Rattle.std.proofs.lemmas.Nat.{div_below, mul-le}
use Rattle.quota_goal.specs.declared.goals.Goal.{Goal}
use Rattle.quota_goal.specs.Next.{asked, next, part}

-- a part is at most all of the bytes
pub part_most : (bytes difference target : ℕ) → 1 ≤ target → difference ≤ target → part bytes difference target ≤ bytes
part_most bytes difference target some most =
    let product : bytes * difference ≤ bytes * target = mul-le bytes difference bytes target (omega arith) most in
    let below : bytes * difference / target < bytes + 1 = div_below (bytes * difference) target (bytes + 1) (omega (arith, some)) (omega (arith, product, some)) in
    omega (arith, below)

-- what lies between the bounds, each held down by the top
pub least_of_bounds : (g : Goal) (bytes top score : ℕ) → min g.low top ≤ next g bytes top score
least_of_bounds g bytes top score = omega arith

pub most_of_bounds : (g : Goal) (bytes top score : ℕ) → g.low ≤ g.high → next g bytes top score ≤ min g.high top
most_of_bounds g bytes top score order = omega (arith, order)

-- below the target more is asked for
pub bytes_rise : (g : Goal) (bytes top score : ℕ) → score < g.target → bytes ≤ min g.high top → bytes ≤ next g bytes top score
bytes_rise g bytes top score below within =
    let test : nat_lt score g.target ≡ true = grind (arith, nat_tests, below) in
    let asks : asked g bytes score ≡ bytes + part bytes (g.target - score) g.target = rw test refl in
    held g.low g.high top (asked g bytes score) (omega (arith, asks)) within
  where
    held : (low high top x : ℕ) → bytes ≤ x → bytes ≤ min high top → bytes ≤ min top (max low (min high x))
    held low high top x more within = omega arith

-- from the target on less is asked for
pub bytes_fall : (g : Goal) (bytes top score : ℕ) → g.target ≤ score → min g.low top ≤ bytes → next g bytes top score ≤ bytes
bytes_fall g bytes top score reached within =
    let test : nat_lt score g.target ≡ false = grind (arith, nat_tests, reached) in
    let asks : asked g bytes score ≡ bytes - part bytes (min (score - g.target) g.target) g.target = rw test refl in
    held g.low g.high top (asked g bytes score) (omega (arith, asks)) within
  where
    held : (low high top x : ℕ) → x ≤ bytes → min low top ≤ bytes → min top (max low (min high x)) ≤ bytes
    held low high top x less within = omega arith
