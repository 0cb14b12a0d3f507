-- The high half of the product is the quotient.
use Rattle.std.proofs.Common.{◌≡◌, ℕ, ◌+◌, ◌-◌, ◌*◌, ◌/◌, ◌%◌, ◌≤◌, ◌<◌, ◌^◌, ap, sym, ◌∙◌, arith}
use Rattle.std.proofs.Math.Nat.{mul-add, mul-le-mul_left, mul_assoc, mul_comm}
use Rattle.std.proofs.lemmas.Nat.{div-add-mod', div-mul-add, le-div, mod_below}
use Rattle.reciprocal.specs.Kept.{IsReciprocal}

-- of a dividend q * d + s, where f is (w - 1) / d with the remainder r
high_is : (w d f q r s : ℕ) → f * d + r + 1 ≡ w → r < d → s < d → q * d ≤ f → f * (q * d + s + 1) / w ≡ q
high_is w d f q r s whole r_less s_less few =
    let apart : f * (q * d + (s + 1)) ≡ f * (q * d) + f * (s + 1) = mul-add f (q * d) (s + 1) in
    let turned : f * (q * d) ≡ q * (f * d) = sym (mul_assoc f q d) ∙ ap (λ n. n * d) (mul_comm f q) ∙ mul_assoc q f d in
    let all : q * (f * d + (r + 1)) ≡ q * w = ap (λ n. q * n) (omega (arith, whole)) in
    let parts : q * (f * d + (r + 1)) ≡ q * (f * d) + q * (r + 1) = mul-add q (f * d) (r + 1) in
    let missing : q * (r + 1) ≤ q * d = mul-le-mul_left q (omega (arith, r_less)) in
    let excess : f * (s + 1) ≤ f * d = mul-le-mul_left f (omega (arith, s_less)) in
    let one : f * (0 + 1) ≤ f * (s + 1) = mul-le-mul_left f (omega arith) in
    let rest : ℕ = f * (s + 1) - q * (r + 1) in
    let number : f * (q * d + s + 1) ≡ f * (q * d + (s + 1)) = ap (λ n. f * n) (omega arith) in
    let product : f * (q * d + s + 1) ≡ q * w + rest = omega (arith, number, apart, turned, all, parts, missing, few, one) in
    ap (λ n. n / w) product ∙ div-mul-add q w rest (omega (arith, excess, whole))

pub quotient_is : (d f n : ℕ) → IsReciprocal d f → n < 2 ^ 32 → f * (n + 1) / 2 ^ 64 ≡ n / d
quotient_is d f n is small =
    let some : 0 < d = omega (arith, is.some) in
    let dividend : n / d * d + n % d ≡ n = div-add-mod' n d in
    let whole : f * d + (2 ^ 64 - 1) % d ≡ 2 ^ 64 - 1 = ap (λ k. k * d + (2 ^ 64 - 1) % d) is.divided ∙ div-add-mod' (2 ^ 64 - 1) d in
    let large : 2 ^ 32 ≤ f = omega (arith, is.divided, le-div (2 ^ 32) (2 ^ 64 - 1) d some (omega (arith, is.small))) in
    ap (λ k. f * (k + 1) / 2 ^ 64) (sym dividend)
    ∙ high_is (2 ^ 64) d f (n / d) ((2 ^ 64 - 1) % d) (n % d) (omega (arith, whole)) (mod_below (2 ^ 64 - 1) d some) (mod_below n d some) (omega (arith, dividend, large, small))
