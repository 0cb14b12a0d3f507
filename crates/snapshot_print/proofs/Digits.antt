-- How many digits a number has.
use Rattle.std.proofs.Common.{◌≡◌, ℕ, ◌+◌, ◌≤◌, ◌<◌, ◌^◌, List, ◌++◌, length, drop, ap, arith, length-append, length-drop, decimal}
use Rattle.std.proofs.lemmas.Fmt.{length-decimal-le}

-- a number of 32 bits has at most 10
pub ten_digits : (n : ℕ) → n < 2 ^ 32 → length (decimal n) ≤ 10
ten_digits n fits = length-decimal-le 10 n (omega arith) (omega arith) (omega arith)

-- where they begin that end before an index
pub digits_begin : (start end n : ℕ) (new old : List ℕ) → n < 2 ^ 32 → length new ≡ length old → start ≤ end → end ≤ length old → drop start new ≡ decimal n ++ drop end old → end ≤ start + 10
digits_begin start end n new old fits same before within written =
    omega (arith, ap length written, length-append (decimal n) (drop end old), length-drop start new, length-drop end old, ten_digits n fits)
