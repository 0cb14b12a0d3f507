use Rattle.std.proofs.Common.{◌≡◌, false, sym, subst, ◌∙◌, arith}
use Rattle.region_list.specs.Walk.{BeginsIn}
use Rattle.region_list.proofs.Lemmas.{begins_fits, begins_joined, begins_next}
use Rattle.region_merge.specs.Merged.{may_join}
use Rattle.region_merge.proofs.StayLemmas.{next_stays}
use Rattle.region_merge.proofs.StepLemmas.{begins_group, begins_two, may_join_is}
use Rattle.region_merge.proofs.merge.MergePass.first_pair.Goals as goal

pub joins-requires-clause-end : goal.joins-requires-clause-end
joins-requires-clause-end c =
    begins_fits _ _ _ _ _ c.requires.order (begins_two _ _ _ _ _ _ _ _ c.next.ensures.rest c.next-next.ensures.rest c.pairs.invariant.here)

pub joins-requires-clause-pages : goal.joins-requires-clause-pages
joins-requires-clause-pages c =
    let two = begins_two _ _ _ _ _ _ _ _ c.next.ensures.rest c.next-next.ensures.rest c.pairs.invariant.here in
    λ on. omega (arith, begins_fits _ _ _ _ _ c.requires.order (begins_joined _ _ _ _ _ _ two on))

pub next_group-begun-requires-clause-end : goal.next_group-begun-requires-clause-end
next_group-begun-requires-clause-end c =
    begins_fits _ _ _ _ _ c.requires.order (begins_two _ _ _ _ _ _ _ _ c.next.ensures.rest c.next-next.ensures.rest c.pairs.invariant.here)

pub next_group-begun-requires-clause-next : goal.next_group-begun-requires-clause-next
next_group-begun-requires-clause-next c =
    let two = begins_two _ _ _ _ _ _ _ _ c.next.ensures.rest c.next-next.ensures.rest c.pairs.invariant.here in
    λ over. (begins_next _ _ _ _ _ _ c.requires.order two over).1

pub pairs-preserved : goal.pairs-preserved
pairs-preserved c =
    let gs = c.args.ranges.now.list in
    let rows = c.args.rows.now.rows in
    let i = c.pairs.at.index in
    let kept = c.pairs.invariant in
    let order = c.requires.order in
    let first = c.next.ensures.rest in
    let second = c.next-next.ensures.rest in
    let two = begins_two _ _ _ _ _ _ _ _ first second kept.here in
    let begun = c.next_group-begun in
    let apart : may_join gs c.args.self.now.threshold c.args.self.now.limit c.next.result c.next-next.result ≡ false =
    may_join_is _ _ _ _ _ _ _ _ order two ∙ sym c.joins.ensures ∙ c.if-joins.false in
    record {
      within = omega (arith, c.pairs-test.true, c.len-last.ensures);
      later = omega (arith, kept.later);
      here = subst (λ rs. BeginsIn gs rs begun.result.range begun.result.end) (sym second) (begins_group _ _ _ _ _ _ _ _ order two begun.ensures.same begun.ensures.next);
      stay = next_stays gs c.args.self.now.threshold c.args.self.now.limit rows i c.next.result c.next-next.result _ _ first second apart ∙ kept.stay;
    }
