use Rattle.std.proofs.Common.{◌≡◌, ℕ, ◌+◌, List, drop, length, slice_index_or, true, ap, sym, ◌∙◌, arith, rules}
use Rattle.std.specs.Char.{is_ascii_digit}
use Rattle.std.specs.Str.{all_ascii_digits}
use Rattle.line_text.specs.Leading.{leading_digits}
use Rattle.line_text.specs.Number.{value_on}
use Rattle.line_text.proofs.LeadingLemmas.{all_more, no_more_number, one_more, take_while-pass}
use Rattle.line_text.proofs.leading.read_leading_digits.Goals as goal

pub returns-in_err-value-clause-value : goal.returns-in_err-value-clause-value
returns-in_err-value-clause-value c =
    let bytes : List ℕ = c.args.bytes.now in
    let i : ℕ = c.loop-index.index in
    let digit : is_ascii_digit (slice_index_or bytes i 0) ≡ true = search rules in
    let next = take_while-pass is_ascii_digit i bytes c.loop-index-test.true digit in
    rw c.from_residual.ensures (no_more_number c.args.most c.loop-index.value (slice_index_or bytes i 0) (leading_digits (drop (i + 1) bytes)) (leading_digits bytes)
    digit (c.loop-index.invariant.value ∙ ap (value_on c.loop-index.value) next) (sym c.with_digit.ensures.exact ∙ c.in_err-value.was))

pub loop-index-preserved : goal.loop-index-preserved
loop-index-preserved c =
    let bytes : List ℕ = c.args.bytes.now in
    let i : ℕ = c.loop-index.index in
    let v : ℕ = c.loop-index.value in
    let digit : is_ascii_digit (slice_index_or bytes i 0) ≡ true = search rules in
    let next = take_while-pass is_ascii_digit i bytes c.loop-index-test.true digit in
    let more = one_more c.args.most v (slice_index_or bytes i 0) c.in_ok-value.value (sym c.with_digit.ensures.exact ∙ c.in_ok-value.was) in
    record {
      digits = c.loop-index.invariant.digits ∙ ap all_ascii_digits next ∙ all_more (slice_index_or bytes i 0) (leading_digits (drop (i + 1) bytes)) digit;
      value = c.loop-index.invariant.value ∙ ap (value_on v) next ∙ ap (λ n. value_on n (leading_digits (drop (i + 1) bytes))) (sym more.0);
      count = omega (arith, ap length next, c.loop-index.invariant.count);
      most = more.1;
    }
