use Rattle.std.proofs.Common.{◌≡◌, take}
use Rattle.target_ranges.specs.Made.{ranges_of}
use Rattle.target_ranges.proofs.fill.fill_checked.Given as goal

abbrev pub invariant-loop-spec : goal.invariant-loop-spec
invariant-loop-spec l = l.ranges ≡ record l.fn.ranges { list = ranges_of l.space (take l.spec-index l.specs) }
