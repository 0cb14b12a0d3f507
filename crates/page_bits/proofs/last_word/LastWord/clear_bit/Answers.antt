use Rattle.std.proofs.Common.{◌≡◌, ◌/◌, ◌%◌, false, sym, ap, ◌∙◌, arith}
use Rattle.std.specs.Prelude.{◌==◌, slice_index}
use Rattle.std.specs.Int.{bit_at, w64}
use Rattle.std.proofs.lemmas.Bool.Decides.{nat_tests}
use Rattle.std.proofs.lemmas.Nat.Bits.{bit_at_clear_same, bit_at_clear_other}
use Rattle.page_bits.proofs.One.{one_bit}
use Rattle.page_bits.proofs.last_word.LastWord.clear_bit.Goals.{else-index-self, then-index-self}
use Rattle.page_bits.proofs.last_word.LastWord.clear_bit.Goals as goal

pub returns-clause-bits : goal.returns-clause-bits
returns-clause-bits c =
    let words = c.args.words.now in
    let page = c.args.page in
    let last = c.args.self.now in
    let old = c.if-index-self.old in
    let is : old ≡ slice_index words (page / 64) = elim c.if-index-self.branch [
      | then-index-self w ↦
          let same : page / 64 ≡ last.index = grind (arith, nat_tests, w.if-index-self) in
          w.old-is ∙ sym c.requires.last ∙ ap (slice_index words) (sym same)
      | else-index-self w ↦ w.old-is
    ] in
    one_bit words page _ false c.requires.word
    (ap (λ n. n == 1) (bit_at_clear_same w64 old (page % 64) (omega arith)))
    (λ i below other. bit_at_clear_other w64 old (page % 64) (omega arith) i below other ∙ ap (λ v. bit_at v i) is)
