use Rattle.std.proofs.Common.{◌≡◌, ◌+◌, ◌<◌, Bool, length, List, rules, sym, ap, ◌∙◌, arith}
use Rattle.std.specs.Prelude.{slice_index_or, vec_len}
use Rattle.run_journal.specs.Bits.{place_of, used_bits}
use Rattle.run_journal.proofs.Packing.{length_bits, read_at}
use Rattle.run_journal.proofs.bits.BitList.get.Goals as goal

pub index-requires : goal.index-requires
index-requires c =
    let s = c.self.inside in
    let len : vec_len s.words ≡ length s.words.items = search rules in
    let all = ap (λ (l : List Bool). length l) (sym c.self.view_is) ∙ length_bits (used_bits s.words.items s.free) s.words.items in
    omega (arith, len, all, c.requires, c.place_after-word.ensures.place, c.place_after-word.ensures.bit, c.self.invariant.some)

pub returns : goal.returns
returns c none =
    let s = c.self.inside in
    let n = used_bits s.words.items s.free in
    let all = ap (λ (l : List Bool). length l) (sym c.self.view_is) ∙ length_bits n s.words.items in
    let p = c.place_after-word in
    let here : p.result.word < length s.words.items = omega (arith, all, c.requires, p.ensures.place, p.ensures.bit, c.self.invariant.some) in
    read_at s.words.items n (place_of c.args.place + c.args.count) p.result.word p.result.bit c.index.result.now none (omega (arith, c.requires, all)) p.ensures.place p.ensures.bit here c.index.ensures
    ∙ ap (λ l. slice_index_or l (place_of c.args.place + c.args.count) none) c.self.view_is
