use Rattle.std.proofs.Common.{◌≡◌, ℕ, ◌+◌, ◌*◌, ◌^◌, List, Some, drop, length, slice_index_or, ap, sym, ◌∙◌, arith, add-one}
use Rattle.std.proofs.Math.Nat.{pow-suc}
use Rattle.std.specs.Prelude.{is_some, option_and_then}
use Rattle.line_text.specs.Address.{hex_digit, hex_on}
use Rattle.line_text.specs.Leading.{is_hex_digit, leading_hex_digits}
use Rattle.line_text.proofs.Hex.{hex_room}
use Rattle.line_text.proofs.LeadingLemmas.{take_while-pass}
use Rattle.line_text.proofs.leading.read_few_hex_digits.Goals as goal

pub overflow_mul-value : goal.overflow_mul-value
overflow_mul-value c = omega (arith, hex_room c.loop-index.index c.loop-index.value (omega arith) c.loop-index.invariant.small)

pub overflow_add-value : goal.overflow_add-value
overflow_add-value c =
    omega (arith, hex_room c.loop-index.index c.loop-index.value (omega arith) c.loop-index.invariant.small, c.in-Some.ensures.bound)

pub loop-index-preserved : goal.loop-index-preserved
loop-index-preserved c =
    let bytes : List ℕ = c.args.bytes.now in
    let i : ℕ = c.loop-index.index in
    let v : ℕ = c.loop-index.value in
    let digit : hex_digit (slice_index_or bytes i 0) ≡ Some c.in-Some.digit = sym c.in-Some.ensures.exact in
    let next = take_while-pass is_hex_digit i bytes c.loop-index-test.true (ap is_some digit) in
    let rest : List ℕ = leading_hex_digits (drop (i + 1) bytes) in
    record {
      value = c.loop-index.invariant.value ∙ ap (hex_on v) next ∙ ap (option_and_then (λ d. hex_on (16 * v + d) rest)) digit
          ∙ ap (λ d. hex_on (16 * v + d) rest) (sym c.from.ensures);
      count = omega (arith, ap length next, c.loop-index.invariant.count);
      small = omega (arith, pow-suc 16 i, add-one i, ap (λ n. 16 ^ n) (add-one i), c.loop-index.invariant.small, c.in-Some.ensures.bound, c.from.ensures);
    }
