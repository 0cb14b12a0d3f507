-- What the fields of a reciprocal keep. Only proofs need it.
use Rattle.std.specs.Prelude.{◌≡◌, ℕ, ◌-◌, ◌/◌, ◌≤◌, ◌<◌, ◌^◌}

-- (2^64 - 1) / divisor, rounded down
abbrev pub reciprocal_of : ℕ → ℕ
reciprocal_of number = (2 ^ 64 - 1) / number

-- the factor is the reciprocal of the divisor
pub record IsReciprocal (number factor : ℕ) : Type 0 where
  pub some : 1 ≤ number
  pub small : number < 2 ^ 32
  pub divided : factor ≡ reciprocal_of number
