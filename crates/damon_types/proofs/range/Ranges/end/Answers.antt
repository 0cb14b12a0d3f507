use Rattle.std.proofs.Common.{◌≡◌, ◌<◌, Some, length, ap, sym, ◌∙◌, arith}
use Rattle.std.specs.Prelude.{slice_get}
use Rattle.std.proofs.lemmas.Option.{slice_get-get_or}
use Rattle.damon_types.specs.Ranges.{RangeList}
use Rattle.damon_types.proofs.RangeLemmas.{end_at}
use Rattle.damon_types.proofs.range.Ranges.end.Goals as goal

pub overflow_add-result : goal.overflow_add-result
overflow_add-result c =
    let gs = c.self.inside.items.items in
    let here : c.args.index < length gs = omega (arith, c.requires, ap (λ (r : RangeList). length r.list) c.self.view_is) in
    let is : slice_get gs c.args.index ≡ Some c.index-range.result.now = slice_get-get_or gs c.args.index c.index-range.result.now here ∙ ap (λ g. Some g) (sym c.index-range.ensures) in
    omega (arith, end_at 0 0 gs c.args.index c.index-range.result.now c.self.invariant.order is)
