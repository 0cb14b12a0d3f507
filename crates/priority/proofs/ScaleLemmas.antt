-- A part of a whole on a scale from 0 to the greatest score.
use Rattle.std.proofs.Common.{◌≡◌, ◌⊎◌, inl, inr, ℕ, ◌*◌, ◌/◌, ◌<◌, ◌≤◌, ap, ◌∙◌, arith}
use Rattle.std.specs.Prelude.{min}
use Rattle.std.proofs.Math.Nat.{mul-div_cancel}
use Rattle.std.proofs.lemmas.Bool.{cases_lt}
use Rattle.std.proofs.lemmas.Nat.{div_below, le-div}
use Rattle.priority.specs.Score.{scaled}

pub scaled_is : (number whole : ℕ) → 1 ≤ whole → 99 * min number whole / whole ≡ scaled number whole
scaled_is number whole some = by (cases_lt number whole)
  where
    by : (number < whole) ⊎ (whole ≤ number) → 99 * min number whole / whole ≡ min (99 * number / whole) 99
    by (inl less) =
        let part : min number whole ≡ number = omega (arith, less) in
        ap (λ n. 99 * n / whole) part ∙ omega (arith, div_below (99 * number) whole 100 (omega (arith, some)) (omega (arith, less)))
    by (inr more) =
        let part : min number whole ≡ whole = omega (arith, more) in
        ap (λ n. 99 * n / whole) part ∙ mul-div_cancel 99 (omega (arith, some)) ∙ omega (arith, le-div 99 (99 * number) whole (omega (arith, some)) (omega (arith, more)))
