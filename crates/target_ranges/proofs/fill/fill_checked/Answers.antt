use Rattle.std.proofs.Common.{◌≤◌, length, ap, ◌∙◌, arith}
use Rattle.std.proofs.lemmas.List.{take_all}
use Rattle.damon_types.specs.declared.range.Range.{Range}
use Rattle.damon_types.specs.Ranges.{RangeList}
use Rattle.damon_types.specs.Within.{LiesInTarget}
use Rattle.target_ranges.specs.Made.{ranges_of}
use Rattle.target_ranges.proofs.Made.{all_good, can_push, each_made, placed-LiesInTarget}
use Rattle.target_ranges.proofs.fill.fill_checked.Goals as goal

pub range_of-requires : goal.range_of-requires
range_of-requires c =
    (all_good c.args.space.now c.requires.0 c.args.ranges.now.cap c.args.specs.now c.requires.1 c.loop-spec.spec-index (record { target = 0; from = 0; to = 0; class = 0 }) c.loop-spec-test.true).placed

pub push-requires : goal.push-requires
push-requires c =
    let list = ap (λ (r : RangeList). r.list) c.loop-spec.invariant in
    let cap_same = ap (λ (r : RangeList). r.cap) c.loop-spec.invariant in
    let can = can_push c.args.space.now c.requires.0 c.args.ranges.now.cap c.args.specs.now c.loop-spec.spec-index (record { target = 0; from = 0; to = 0; class = 0 }) (omega (arith, c.range_of.ensures.sound.total)) c.loop-spec-test.true c.requires.1 in
    record {
      room = omega (arith, can.few, ap length list, cap_same);
      pages = rw c.range_of.ensures.exact can.range.pages;
      end = rw c.range_of.ensures.exact can.range.end;
      after = rw (list, c.range_of.ensures.exact) can.after;
    }

pub returns-clause-within : goal.returns-clause-within
returns-clause-within c =
    let made = ap (λ (r : RangeList). r.list) c.loop-spec.invariant ∙ ap (ranges_of c.args.space.now) (take_all c.loop-spec.spec-index c.args.specs.now c.loop-spec-test.false) in
    rw made (each_made c.args.space.now c.requires.0 c.args.ranges.now.cap c.args.specs.now (LiesInTarget c.args.space.now) (λ s good. placed-LiesInTarget c.args.space.now s good.placed) c.requires.1)

pub returns-clause-wide : goal.returns-clause-wide
returns-clause-wide c = λ unit accepted.
    let made = ap (λ (r : RangeList). r.list) c.loop-spec.invariant ∙ ap (ranges_of c.args.space.now) (take_all c.loop-spec.spec-index c.args.specs.now c.loop-spec-test.false) in
    rw made (each_made c.args.space.now unit c.args.ranges.now.cap c.args.specs.now (λ (g : Range). unit ≤ g.pages) (λ s good. good.wide) accepted)

pub returns-clause-classes : goal.returns-clause-classes
returns-clause-classes c =
    let made = ap (λ (r : RangeList). r.list) c.loop-spec.invariant ∙ ap (ranges_of c.args.space.now) (take_all c.loop-spec.spec-index c.args.specs.now c.loop-spec-test.false) in
    rw made (each_made c.args.space.now c.requires.0 c.args.ranges.now.cap c.args.specs.now (λ (g : Range). g.class ≤ 15) (λ s good. good.class) c.requires.1)
