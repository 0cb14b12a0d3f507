use Rattle.std.proofs.Common.{◌≡◌, ◌+◌, ◌-◌, ◌/◌, ◌%◌, ◌≤◌, ◌<◌, drop, length, take, length-set, ap, ◌∙◌, arith}
use Rattle.std.proofs.lemmas.List.{length-drop, length-take-le}
use Rattle.page_bits.specs.Bits.{bit_in}
use Rattle.page_bits.specs.Runs.{bit_after}
use Rattle.page_bits.proofs.PutMore.{one_word, put_more}
use Rattle.page_bits.proofs.each.put_each_bit.Goals as goal

pub words-preserved : goal.words-preserved
words-preserved c =
    let bits = c.args.bits.now in
    let start = c.args.start in
    let done = c.words.done in
    let count = c.min-count.result in
    let page = start + done in
    let words = c.words.words in
    let new = c.put_in_word.new.word in
    let i = c.words.invariant in
    let few : (done + count ≤ length bits) × (page % 64 + count ≤ 64) = omega (arith, c.min-count.ensures, c.words-test.true) in
    let n = done + count - done in
    let same : n ≡ count = omega arith in
    let next = take n (drop done bits) in
    let size : length next ≡ count = length-take-le n (drop done bits) (omega (arith, same, few.0, length-drop done bits)) ∙ same in
    let here : page / 64 < length words = omega (arith, i.len, c.requires.within, c.words-test.true) in
    record {
      done = few.0;
      len = length-set words (page / 64) new ∙ i.len;
      each = λ p.
          one_word words page new next here (omega (arith, size, few.1)) c.put_in_word.ensures p
          ∙ ap (λ b. bit_after page next p b) (i.each p)
          ∙ ap (λ n. bit_after page (take n (drop done bits)) p (bit_after start (take done bits) p (bit_in c.args.words.now p))) same
          ∙ put_more start bits done count p (bit_in c.args.words.now p) few.0;
    }
