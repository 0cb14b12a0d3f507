use Rattle.std.proofs.Common.{◌≡◌, Bool, length, List, rules, sym, ap, ◌∙◌, arith}
use Rattle.std.specs.Prelude.{vec_len}
use Rattle.run_journal.specs.Bits.{used_bits}
use Rattle.run_journal.proofs.Packing.{length_bits}
use Rattle.run_journal.proofs.bits.BitList.place_after.Goals as goal

pub overflow_add-result : goal.overflow_add-result
overflow_add-result c =
    let s = c.self.inside in
    let len : vec_len s.words ≡ length s.words.items = search rules in
    let all = ap (λ (l : List Bool). length l) (sym c.self.view_is) ∙ length_bits (used_bits s.words.items s.free) s.words.items in
    omega (arith, len, all, c.requires, c.from.ensures, c.from-2.ensures, c.from-3.ensures, c.len-words.ensures, c.len-words.type_inv)
