use Rattle.std.proofs.Common.{◌≡◌, ◌++◌, length}
use Rattle.std.specs.List.{AllByRecursion, flat_map}
use Rattle.line_text.specs.Appended.{KeepsFront}
use Rattle.snapshot_print.proofs.line_groups.print_lines.Given as goal

abbrev pub invariant-groups : goal.invariant-groups
invariant-groups g l = record {
  items : AllByRecursion (g.L.LineOf.can_write l.line_of) l.left;
  text : l.out.items ++ flat_map (g.L.LineOf.line l.line_of) l.left ≡ l.fn.out.items ++ flat_map (g.L.LineOf.line l.line_of) l.items;
  kept : KeepsFront l.fn.out.items l.out.items;
}

abbrev pub decreases-groups : goal.decreases-groups
decreases-groups g l = length l.left
