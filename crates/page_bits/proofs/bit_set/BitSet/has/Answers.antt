use Rattle.std.proofs.Common.{◌<◌, length, sym, ap, ◌∙◌, arith}
use Rattle.std.specs.Prelude.{false, slice_index_or}
use Rattle.page_bits.specs.Bits.{bit_in}
use Rattle.page_bits.proofs.Setting.{at_page, length_pages}
use Rattle.page_bits.proofs.bit_set.BitSet.has.Goals as goal

here : (c : goal.After-deref) → c.args.index < c.self.inside.len
here c = omega (arith, c.requires, ap length c.self.view_is, length_pages c.self.inside.len (bit_in c.self.inside.words.items))

pub is_bit_set-requires : goal.is_bit_set-requires
is_bit_set-requires c = omega (arith, here c, c.self.invariant, ap length c.deref.ensures.value)

pub returns : goal.returns
returns c =
    let s = c.self.inside in
    let below : c.args.index < s.len = omega (arith, c.requires, ap length c.self.view_is, length_pages s.len (bit_in s.words.items)) in
    c.is_bit_set.ensures
    ∙ ap (λ ws. bit_in ws c.args.index) c.deref.ensures.value
    ∙ sym (at_page s.len (bit_in s.words.items) c.args.index below)
    ∙ ap (λ set. slice_index_or set c.args.index false) c.self.view_is
