use Rattle.std.proofs.Common.{◌≡◌, ℕ, ◌+◌, false, List, drop, length, take, get_or, sym, ap, ◌∙◌, arith}
use Rattle.std.proofs.lemmas.List.{ext_get_or, get_or-drop, get_or-take, length-drop, length-take-le}
use Rattle.page_bits.specs.Bits.{bit_in}
use Rattle.page_bits.proofs.Setting.{at_page, have_bits}
use Rattle.page_bits.proofs.bit_set.BitSet.get_each.Goals as goal

pub get_each_bit-requires-clause-sum : goal.get_each_bit-requires-clause-sum
get_each_bit-requires-clause-sum c = omega (arith, c.requires, c.len-len.ensures)

pub get_each_bit-requires-clause-within : goal.get_each_bit-requires-clause-within
get_each_bit-requires-clause-within c = omega (arith, have_bits c.self.inside.len c.args.start (length c.args.bits.now) c.self.inside.words.items c.args.self.now c.self.view_is c.requires, c.self.invariant, ap length c.deref.ensures.value)

pub returns : goal.returns
returns c =
    let s = c.self.inside in
    let start = c.args.start in
    let n = length c.args.bits.now in
    let xs = c.args.self.now in
    let new = c.get_each_bit.new.bits in
    let few = have_bits s.len start n s.words.items xs c.self.view_is c.requires in
    let size : length (take n (drop start xs)) ≡ n = length-take-le n (drop start xs) (omega (arith, c.requires, length-drop start xs)) in
    ext_get_or false new (take n (drop start xs)) (c.get_each_bit.ensures.len ∙ sym size) (λ i below.
    c.get_each_bit.ensures.bits i (omega (arith, below, c.get_each_bit.ensures.len))
    ∙ ap (λ (ws : List ℕ). bit_in ws (start + i)) c.deref.ensures.value
    ∙ sym (at_page s.len (bit_in s.words.items) (start + i) (omega (arith, below, c.get_each_bit.ensures.len, few)))
    ∙ ap (λ l. get_or l (start + i) false) c.self.view_is
    ∙ sym (get_or-drop start xs i false)
    ∙ sym (get_or-take n (drop start xs) i false (omega (arith, below, c.get_each_bit.ensures.len))))
