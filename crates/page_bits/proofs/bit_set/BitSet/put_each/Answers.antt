use Rattle.std.proofs.Common.{ℕ, List, length, ap, ◌∙◌, arith}
use Rattle.std.proofs.lemmas.List.{with_items_is}
use Rattle.page_bits.specs.Bits.{bit_in}
use Rattle.page_bits.specs.Runs.{bit_after}
use Rattle.page_bits.specs.Sets.{bits_of, with_each}
use Rattle.page_bits.proofs.Setting.{each_is, have_bits}
use Rattle.page_bits.proofs.bit_set.BitSet.put_each.Goals as goal

pub put_each_bit-requires-clause-sum : goal.put_each_bit-requires-clause-sum
put_each_bit-requires-clause-sum c = omega (arith, have_bits c.self.inside.len c.args.start (length c.args.bits.now) c.self.inside.words.items c.args.self.now c.self.view_is c.requires, c.self.ranges)

pub put_each_bit-requires-clause-within : goal.put_each_bit-requires-clause-within
put_each_bit-requires-clause-within c = omega (arith, have_bits c.self.inside.len c.args.start (length c.args.bits.now) c.self.inside.words.items c.args.self.now c.self.view_is c.requires, c.self.invariant, ap length c.deref_mut.ensures.value)

pub returns : goal.returns
returns c =
    let s = c.self.inside in
    let words = c.put_each_bit.new.words in
    let same = c.deref_mut.ensures.value in
    ap (bits_of s.len) (with_items_is s.words words (omega (arith, c.put_each_bit.ensures.len, ap length same)))
    ∙ each_is s.len c.args.start c.args.bits.now s.words.items words (λ p.
    c.put_each_bit.ensures.bits p ∙ ap (λ (ws : List ℕ). bit_after c.args.start c.args.bits.now p (bit_in ws p)) same)
    ∙ ap (with_each c.args.start c.args.bits.now) c.self.view_is
