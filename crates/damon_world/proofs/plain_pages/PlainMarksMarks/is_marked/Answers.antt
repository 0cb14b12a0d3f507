use Rattle.std.proofs.Common.{◌<◌, sym, ◌∙◌, arith}
use Rattle.damon_world.proofs.Parts.{length_bits, mark_is_bit}
use Rattle.damon_world.proofs.plain_pages.PlainMarksMarks.is_marked.Goals as goal

pub is_bit_set-requires : goal.is_bit_set-requires
is_bit_set-requires c =
    let m = c.args.self.now in
    omega (arith, c.requires, length_bits m.pages m.words.now, m.each)

pub returns : goal.returns
returns c =
    let m = c.args.self.now in
    let here : c.args.page < m.pages = omega (arith, c.requires, length_bits m.pages m.words.now) in
    c.is_bit_set.ensures ∙ sym (mark_is_bit m.pages m.words.now c.args.page here)
