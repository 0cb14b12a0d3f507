use Rattle.std.proofs.Common.{◌≡◌, Some, sym, ap, ◌∙◌}
use Rattle.std.specs.Prelude.{slice_get}
use Rattle.std.specs.Option.{option_map}
use Rattle.std.proofs.lemmas.Option.{slice_get-map}
use Rattle.damon_types.specs.Span.{span_of, spans}
use Rattle.scheme_engine.proofs.PlaceLemmas.{row_by_start, rows_ascend}
use Rattle.scheme_engine.proofs.apply.find_near.Goals as goal

pub returns-then-row-page : goal.returns-then-row-page
returns-then-row-page c =
    let old = c.args.regions.now in
    let is = c.len-count.ensures in
    let ascend = rows_ascend old.unit old.ranges (spans old.rows) is.unit is.order is.tiling in
    let at : slice_get (spans old.rows) c.args.near ≡ Some (span_of c.row.result) = slice_get-map span_of old.rows c.args.near ∙ ap (λ o. option_map span_of o) c.row.ensures.row in
    sym (row_by_start old.rows c.args.near (span_of c.row.result) c.args.page ascend at (sym c.if-row-page.true))
