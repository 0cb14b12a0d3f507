use Rattle.std.proofs.Common.{◌≡◌, inl, inr, ◌+◌, true, false, take, get_or, sym, ap, ◌∙◌, arith}
use Rattle.std.specs.Prelude.{◌==◌, if◌then◌else◌}
use Rattle.std.specs.Int.{w64}
use Rattle.std.proofs.lemmas.Bool.{cases_eq}
use Rattle.std.proofs.lemmas.Bool.Decides.{nat_tests}
use Rattle.std.proofs.lemmas.Nat.Bits.{bit_at_set_same, bit_at_set_other, bit_at_clear_same, bit_at_clear_other}
use Rattle.page_bits.specs.Bits.{is_set}
use Rattle.page_bits.specs.Runs.{bit_after}
use Rattle.page_bits.proofs.PutMore.{put_one}
use Rattle.page_bits.proofs.each.put_in_word.Goals.{then-bits-k, else-bits-k}
use Rattle.page_bits.proofs.each.put_in_word.Goals as goal

pub loop-k-preserved : goal.loop-k-preserved
loop-k-preserved c = λ i below.
    let bits = c.args.bits.now in
    let k = c.loop-k.k in
    let at = c.args.from + k in
    let old = c.loop-k.now in
    let new = c.if-bits-k.now in
    let bit = get_or bits k false in
    let kept = c.loop-k.invariant i below in
    let here : is_set new at ≡ bit = elim c.if-bits-k.branch [
      | then-bits-k w ↦ ap (λ n. is_set n at) w.now-is ∙ ap (λ n. n == 1) (bit_at_set_same w64 old at (omega (arith, c.requires, c.loop-k-test.true))) ∙ sym w.if-bits-k.true
      | else-bits-k w ↦ ap (λ n. is_set n at) w.now-is ∙ ap (λ n. n == 1) (bit_at_clear_same w64 old at (omega (arith, c.requires, c.loop-k-test.true))) ∙ sym w.if-bits-k.false
    ] in
    elim (cases_eq i at) [
      | inl is ↦
          let test : (at == i) ≡ true = grind (arith, nat_tests) in
          ap (is_set new) is ∙ here ∙ sym (put_one c.args.from bits k i (is_set c.args.word.now i) c.loop-k-test.true ∙ ap (λ b. if b then bit else bit_after c.args.from (take k bits) i (is_set c.args.word.now i)) test)
      | inr isnt ↦
          let test : (at == i) ≡ false = grind (arith, nat_tests) in
          let stays : is_set new i ≡ is_set old i = elim c.if-bits-k.branch [
            | then-bits-k w ↦ ap (λ n. is_set n i) w.now-is ∙ ap (λ n. n == 1) (bit_at_set_other w64 old at (omega (arith, c.requires, c.loop-k-test.true)) i isnt)
            | else-bits-k w ↦ ap (λ n. is_set n i) w.now-is ∙ ap (λ n. n == 1) (bit_at_clear_other w64 old at (omega (arith, c.requires, c.loop-k-test.true)) i below isnt)
          ] in
          stays ∙ kept ∙ sym (put_one c.args.from bits k i (is_set c.args.word.now i) c.loop-k-test.true ∙ ap (λ b. if b then bit else bit_after c.args.from (take k bits) i (is_set c.args.word.now i)) test)
    ]
