use Rattle.std.proofs.Common.{◌≡◌, ◌-◌, ◌<◌, length, length-set, ap, ◌∙◌, arith}
use Rattle.std.specs.Prelude.{◌==◌, slice_index, if◌then◌else◌}
use Rattle.std.proofs.lemmas.Option.{get_or_from_slice_get}
use Rattle.damon_world.specs.Pages.{is_picked}
use Rattle.damon_world.proofs.Parts.{picked_next, put_more, tag_put}
use Rattle.damon_world.proofs.plain_pages.put_tags.Goals as goal

pub loop-next-preserved : goal.loop-next-preserved
loop-next-preserved c =
    let picks = c.args.picks.now.pages in
    let from = c.args.from in
    let i = c.loop-next.next in
    let page = c.page.result in
    let tag = c.args.tag in
    let old = c.args.tags.now in
    let is : slice_index picks i ≡ page = get_or_from_slice_get picks i page 0 c.page.ensures in
    let here : page < length c.loop-next.tags = omega (arith, c.requires.pages i (omega arith), is, c.loop-next.invariant.len) in
    record {
      len = length-set c.loop-next.tags page tag ∙ c.loop-next.invariant.len;
      tags = λ p below.
          (tag_put c.loop-next.tags page tag p here
          ∙ put_more (page == p) (is_picked picks from (i - from) p) tag (slice_index c.loop-next.tags p) (slice_index old p) (c.loop-next.invariant.tags p below)
          ∙ ap (λ b. if b then tag else slice_index old p) (picked_next picks from i page p (omega arith) is));
    }
