use Rattle.std.proofs.Common.{arith, ap, sym}
use Rattle.damon_types.specs.Ranges.{RangeList}
use Rattle.damon_types.proofs.ClassLemmas.{class_of_none, last_begun-IsRange, class_of_held, class_of_passed}
use Rattle.damon_types.proofs.range.Ranges.class_of.Goals as goal

pub returns-then-begun-eq0 : goal.returns-then-begun-eq0
returns-then-begun-eq0 c =
    let begun = c.begun_at-begun.ensures in
    sym (class_of_none c.args.self.now.list c.args.page c.begun_at-begun.result begun.order begun.parts c.if-begun-eq0.true)

pub overflow_add-range : goal.overflow_add-range
overflow_add-range c =
    let begun = c.begun_at-begun.ensures in
    let held = rw (ap (λ (r : RangeList). r.list) c.self.view_is) at c.index-range.ensures in
    let is = last_begun-IsRange c.args.self.now.list c.args.page c.begun_at-begun.result c.index-range.result.now begun.order begun.within begun.parts (omega arith) held in
    omega (arith, is.end)

pub returns-then-page-range : goal.returns-then-page-range
returns-then-page-range c =
    let begun = c.begun_at-begun.ensures in
    let held = rw (ap (λ (r : RangeList). r.list) c.self.view_is) at c.index-range.ensures in
    sym (class_of_held c.args.self.now.list c.args.page c.begun_at-begun.result c.index-range.result.now begun.order begun.within begun.parts (omega arith) held c.if-page-range.true)

pub returns-else-page-range : goal.returns-else-page-range
returns-else-page-range c =
    let begun = c.begun_at-begun.ensures in
    let held = rw (ap (λ (r : RangeList). r.list) c.self.view_is) at c.index-range.ensures in
    sym (class_of_passed c.args.self.now.list c.args.page c.begun_at-begun.result c.index-range.result.now begun.order begun.within begun.parts (omega arith) held c.if-page-range.false)
