use Rattle.std.proofs.Common.{◌≡◌, true, false, List, sym, ap, ◌∙◌, arith}
use Rattle.std.proofs.lemmas.Option.{get_or_from_slice_get}
use Rattle.damon_types.specs.declared.row.Row.{Row}
use Rattle.damon_types.specs.Span.{spans}
use Rattle.region_list.specs.Regions.{RegionList}
use Rattle.region_list.specs.Rows.{no_row}
use Rattle.scheme_engine.specs.Outcome.{changes_rows}
use Rattle.scheme_engine.proofs.ApplyLemmas.{none_new, not_changed, not_whole, one_new}
use Rattle.scheme_engine.proofs.PlaceLemmas.{rows_ascend}
use Rattle.scheme_engine.proofs.apply.renew.Goals as goal

pub returns-then-not-changes_rows-clause-rows : goal.returns-then-not-changes_rows-clause-rows
returns-then-not-changes_rows-clause-rows c =
    let old = c.args.regions.now in
    let with : List Row → RegionList = λ rs. record old { rows = rs } in
    let stays : changes_rows c.args.action ≡ false = sym c.changes_rows.ensures ∙ c.if-not-changes_rows.true in
    ap with (sym (none_new c.args.action old.rows c.args.candidate.now (λ r. not_changed c.args.action c.args.candidate.now r stays)))

pub returns-then-candidate-clause-rows : goal.returns-then-candidate-clause-rows
returns-then-candidate-clause-rows c =
    let old = c.args.regions.now in
    let with : List Row → RegionList = λ rs. record old { rows = rs } in
    ap with (sym (none_new c.args.action old.rows c.args.candidate.now (λ r. not_whole c.args.action c.args.candidate.now r c.if-candidate.true)))

pub returns-clause-rows : goal.returns-clause-rows
returns-clause-rows c =
    let old = c.args.regions.now in
    let i = c.args.part.index in
    let with : List Row → RegionList = λ rs. record old { rows = rs } in
    let changes : changes_rows c.args.action ≡ true = sym c.changes_rows.ensures ∙ c.if-not-changes_rows.false in
    let ascend = rows_ascend old.unit old.ranges (spans old.rows) c.len-count.ensures.unit c.len-count.ensures.order c.len-count.ensures.tiling in
    let read = get_or_from_slice_get old.rows i c.row-row.result no_row c.row-row.ensures.row in
    c.set_values.ensures
    ∙ ap with (one_new c.args.action old.rows c.args.candidate.now i c.row-row.result ascend c.requires.within read c.requires.start changes (omega (arith, c.requires.share, c.if-candidate.false)))
