use Rattle.std.proofs.Common.{◌≡◌, ◌≤◌, List, Ok, [], length}
use Rattle.damon_types.specs.declared.range.RangeSpec.{RangeSpec}
use Rattle.damon_types.specs.declared.space.Target.{Target}
use Rattle.live_commit.specs.Slots.{checked_slots, kept_slots}
use Rattle.damon_control.specs.Left.{IsShort, reads_left}
use Rattle.damon_control.specs.Script.{AtSchemes}
use Rattle.damon_control.proofs.head.read_slots.Given as goal

abbrev pub invariant-schemes : goal.invariant-schemes
invariant-schemes l = record {
  said : (ts : List Target) (rs : List RangeSpec) → reads_left l.form (AtSchemes l.frame ts rs []) l.fn.lines ≡ reads_left l.form (AtSchemes l.frame ts rs l.slots.list) l.lines;
  sound : checked_slots l.frame.version l.slots.list ≡ Ok tt;
  set : kept_slots l.slots.list ≡ l.slots.list;
  few : length l.slots.list ≤ l.lines.taken;
  small : IsShort l.lines;
}

abbrev pub decreases-schemes : goal.decreases-schemes
decreases-schemes l = length l.lines.rest.now
