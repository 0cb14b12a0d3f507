use Rattle.std.proofs.Common.{◌≡◌, Ok, length, ap, ◌∙◌, arith}
use Rattle.std.proofs.lemmas.List.{length-map}
use Rattle.std.proofs.lemmas.List.Elements.{filter_passes}
use Rattle.damon_types.specs.Ranges.{RangeList}
use Rattle.target_ranges.specs.Checked.{checked_ranges}
use Rattle.target_ranges.specs.Made.{range_of}
use Rattle.live_commit.specs.Slots.{has_scheme}
use Rattle.live_commit.proofs.Changes.{slots_kept}
use Rattle.live_commit.proofs.Limits.{limits_kept, setup_checked, watched_kept}
use Rattle.live_commit.proofs.setup.Setup.of_checked.Goals as goal

pub fill_checked-requires : goal.fill_checked-requires
fill_checked-requires c =
    let checked = setup_checked c.args.version c.args.space c.args.unit c.args.cap c.args.attrs c.args.specs.now c.args.slots.now c.requires.checked in
    let watched = watched_kept c.args.space c.args.unit c.args.cap c.args.attrs.max c.args.specs.now checked.watched in
    (c.args.unit, rw c.in_ok-ranges.ensures watched.2)

pub invariant_of-result : goal.invariant_of-result
invariant_of-result c =
    let specs = c.args.specs.now in
    let checked = setup_checked c.args.version c.args.space c.args.unit c.args.cap c.args.attrs specs c.args.slots.now c.requires.checked in
    let limits = limits_kept c.args.unit c.args.cap c.args.attrs checked.limits in
    let watched = watched_kept c.args.space c.args.unit c.args.cap c.args.attrs.max specs checked.watched in
    let accepted : checked_ranges c.args.space c.args.unit c.in_ok-ranges.ranges.cap specs ≡ Ok tt = rw c.in_ok-ranges.ensures watched.2 in
    let made : length c.fill_checked.new.ranges.list ≡ length specs = ap (λ (r : RangeList). length r.list) c.fill_checked.ensures.made ∙ length-map specs (range_of c.args.space) in
    record {
      sound = record {
        unit_some = limits.unit_some;
        unit_most = limits.unit_most;
        cap_some = limits.cap_some;
        cap_most = limits.cap_most;
        attrs = limits.attrs;
        max_cap = limits.max_cap;
        ranges_some = omega (arith, made, watched.0);
        ranges_most = omega (arith, made, watched.1);
        wide = c.fill_checked.ensures.wide c.args.unit accepted;
        classes = c.fill_checked.ensures.classes;
        within = c.fill_checked.ensures.within;
        set = rw c.in_ok-slots.ensures.exact (filter_passes has_scheme c.args.slots.now);
        slots = rw c.in_ok-slots.ensures.exact (slots_kept c.args.version c.args.slots.now checked.slots_ok);
      };
    }
