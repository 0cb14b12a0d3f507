use Rattle.std.proofs.Common.{◌≡◌, ◌-◌, false, sym, ap, ◌∙◌, arith}
use Rattle.damon_types.specs.declared.row.Row.{Row}
use Rattle.region_list.specs.Rows.{row_at}
use Rattle.region_merge.specs.Merged.{is_within}
use Rattle.region_merge.proofs.StayLemmas.{all_stay, one_stays}
use Rattle.region_merge.proofs.merge.may_join_two.Goals as goal

pub pairs-preserved : goal.pairs-preserved
pairs-preserved c =
    let rows = c.args.rows.now.rows in
    let n = c.pairs.next in
    let kept = c.pairs.invariant in
    let within = is_within c.args.threshold c.args.limit in
    let apart : within (row_at rows (n - 1)) (row_at rows n) ≡ false =
    ap (λ (r : Row). within r (row_at rows n)) (sym c.at.ensures) ∙ ap (λ (r : Row). within c.at.result r) (sym c.at-in-pairs.ensures) ∙ sym c.are_within.ensures ∙ c.if-are_within.false in
    λ gs. kept gs ∙ one_stays gs c.args.threshold c.args.limit rows n (omega arith) (omega (arith, c.pairs-test.true, c.count-next-end.ensures)) apart

pub returns : goal.returns
returns c none gs =
    let kept = c.pairs.invariant in
    kept gs ∙ all_stay gs c.args.threshold c.args.limit c.args.rows.now.rows c.pairs.next (omega (arith, c.pairs-test.false, c.count-next-end.ensures)) (omega arith)
