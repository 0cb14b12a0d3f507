-- What the table of hexadecimal digits has for each byte.
use Rattle.std.proofs.Common.{◌≡◌, ℕ, zero, suc, ◌-◌, ◌<◌, ◌≤◌, Bool, true, ◌&&◌, T, eqb, get_or, Some, None, ap, inl, inr, arith, eq-zero-or-pos, eqb→eq}
use Rattle.std.specs.Prelude.{Option}
use Rattle.std.proofs.lemmas.Bool.Decides.{nat_tests}
use lib.Ieee.Fits.{and_l, and_r}
use Rattle.line_text.specs.Address.{hex_digit}
use Rattle.line_text.specs.declared.address.TheConstants.{VALUES}

-- what stands for a digit, or for none
abbrev pub value : Option ℕ → ℕ
value (Some d) = d
value None = 16

-- the table has this of each byte before n
abbrev are_values : ℕ → Bool
are_values zero = true
are_values (suc c) = eqb (get_or VALUES c 0) (value (hex_digit c)) && are_values c

below : (n c : ℕ) → T (are_values n) → c < n → get_or VALUES c 0 ≡ value (hex_digit c)
below zero c t h = absurd (omega arith)
below (suc n) c t h =
    elim (eq-zero-or-pos (n - c)) [
      | inl z ↦ let e : c ≡ n = omega arith in rw e (eqb→eq _ _ (and_l _ (are_values n) t))
      | inr g ↦ below n c (and_r _ (are_values n) t) (omega arith)
    ]

pub VALUES_at : (c : ℕ) → c < 256 → get_or VALUES c 0 ≡ value (hex_digit c)
VALUES_at c h = below 256 c tt h

-- a number below 16 is that of a digit
pub is_digit : (o : Option ℕ) (v : ℕ) → v ≡ value o → v < 16 → Some v ≡ o
is_digit (Some d) v is small = ap Some is
is_digit None v is small = absurd (omega (arith, is, small))

-- any other is that of no digit
pub no_digit : (c v : ℕ) → v ≡ value (hex_digit c) → 16 ≤ v → None ≡ hex_digit c
no_digit c v is big = grind (arith, nat_tests)
