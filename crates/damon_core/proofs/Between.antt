-- What is kept between two passes.
use Rattle.std.proofs.Common.{◌≡◌, ℕ, ◌≤◌, true, false, cond, refl, arith}
use Rattle.std.specs.Prelude.{nat_le}
use Rattle.std.proofs.lemmas.Bool.Decides.{nat_tests}
use Rattle.live_commit.specs.declared.phase.Phase.{Phase}
use Rattle.live_commit.specs.declared.phase.Phase.TheVariants.{Idle, Due}
use Rattle.damon_core.specs.After.{phase_after_pass}
use Rattle.damon_core.specs.Kept.{SinceFew}

-- a fact of Idle and of Due is one of the phase after a pass
by_phase : (P : Phase → Type 0) (since aggr : ℕ) → (nat_le aggr since ≡ true → P Due) → (nat_le aggr since ≡ false → P Idle) → P (phase_after_pass since aggr)
by_phase P since aggr due idle = elim (nat_le aggr since) as (λ b. nat_le aggr since ≡ b → P (cond b Due Idle)) [ true ↦ λ is. due is | false ↦ λ isnt. idle isnt ] refl

pub since-phase_after_pass : (since aggr : ℕ) → 1 ≤ since → aggr ≤ 1000 → since ≤ 1000 → SinceFew (phase_after_pass since aggr) since
since-phase_after_pass since aggr some most few = by_phase (λ ph. SinceFew ph since) since aggr (λ is. (some, few)) (λ isnt. grind (arith, nat_tests))
