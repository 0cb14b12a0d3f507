use Rattle.std.proofs.Common.{ℕ, true, false, Bool, List, length, ap, sym, ◌∙◌, arith}
use Rattle.std.specs.Prelude.{◌==◌, slice_set, if◌then◌else◌}
use Rattle.std.proofs.lemmas.List.{with_items_is}
use Rattle.page_bits.specs.Bits.{bit_in}
use Rattle.page_bits.specs.Sets.{bits_of}
use Rattle.page_bits.proofs.Setting.{has_bit, one_is_put}
use Rattle.page_bits.proofs.bit_set.BitSet.put.Goals as goal

pub set_bit-requires : goal.set_bit-requires
set_bit-requires c =
    let s = c.self.inside in
    let below = has_bit s.len c.args.index s.words.items c.args.self.now c.self.view_is c.requires in
    omega (arith, below, c.self.invariant, ap length c.deref_mut.ensures.value)

pub clear_bit-requires : goal.clear_bit-requires
clear_bit-requires c =
    let s = c.self.inside in
    let below = has_bit s.len c.args.index s.words.items c.args.self.now c.self.view_is c.requires in
    omega (arith, below, c.self.invariant, ap length c.deref_mut-else-now.ensures.value)

pub returns-then-now : goal.returns-then-now
returns-then-now c =
    let s = c.self.inside in
    let page = c.args.index in
    let words = c.set_bit.new.words in
    let same = c.deref_mut.ensures.value in
    ap (bits_of s.len) (with_items_is s.words words (omega (arith, c.set_bit.ensures.len, ap length same)))
    ∙ one_is_put s.len page s.words.items words c.args.now (has_bit s.len page s.words.items c.args.self.now c.self.view_is c.requires) (λ p.
    c.set_bit.ensures.bits p
    ∙ ap (λ (ws : List ℕ). if page == p then true else bit_in ws p) same
    ∙ ap (λ (b : Bool). if page == p then b else bit_in s.words.items p) (sym c.if-now.true))
    ∙ ap (λ xs. slice_set xs page c.args.now) c.self.view_is

pub returns-else-now : goal.returns-else-now
returns-else-now c =
    let s = c.self.inside in
    let page = c.args.index in
    let words = c.clear_bit.new.words in
    let same = c.deref_mut-else-now.ensures.value in
    ap (bits_of s.len) (with_items_is s.words words (omega (arith, c.clear_bit.ensures.len, ap length same)))
    ∙ one_is_put s.len page s.words.items words c.args.now (has_bit s.len page s.words.items c.args.self.now c.self.view_is c.requires) (λ p.
    c.clear_bit.ensures.bits p
    ∙ ap (λ (ws : List ℕ). if page == p then false else bit_in ws p) same
    ∙ ap (λ (b : Bool). if page == p then b else bit_in s.words.items p) (sym c.if-now.false))
    ∙ ap (λ xs. slice_set xs page c.args.now) c.self.view_is
