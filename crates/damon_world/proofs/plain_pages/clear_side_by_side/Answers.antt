use Rattle.std.proofs.Common.{◌≡◌, ◌-◌, false, ap, ◌∙◌, arith}
use Rattle.std.specs.Prelude.{◌==◌, slice_index, if◌then◌else◌}
use Rattle.std.proofs.lemmas.Option.{get_or_from_slice_get}
use Rattle.page_bits.specs.Bits.{bit_in}
use Rattle.damon_world.specs.Pages.{is_picked}
use Rattle.damon_world.proofs.Parts.{picked_next, put_more}
use Rattle.damon_world.proofs.plain_pages.clear_side_by_side.Goals as goal

pub loop-next-preserved : goal.loop-next-preserved
loop-next-preserved c =
    let picks = c.args.picks.now.pages in
    let from = c.args.from in
    let i = c.loop-next.next in
    let page = c.page-in-loop-next.result in
    let is : slice_index picks i ≡ page = get_or_from_slice_get picks i page 0 c.page-in-loop-next.ensures in
    record {
      so_far = record {
        len = c.clear_bit.ensures.len ∙ c.loop-next.invariant.so_far.len;
        bits = λ p.
            (c.clear_bit.ensures.bits p
            ∙ put_more (page == p) (is_picked picks from (i - from) p) false (bit_in c.loop-next.marks p) (bit_in c.args.marks.now p) (c.loop-next.invariant.so_far.bits p)
            ∙ ap (λ b. if b then false else bit_in c.args.marks.now p) (picked_next picks from i page p (omega arith) is));
      };
      last = c.clear_bit.ensures.last;
    }
