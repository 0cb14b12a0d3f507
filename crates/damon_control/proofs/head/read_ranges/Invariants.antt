use Rattle.std.proofs.Common.{◌≡◌, ◌≤◌, Ok, [], length}
use Rattle.target_ranges.specs.Checked.{checked_ranges}
use Rattle.damon_control.specs.declared.grammar.Grammar.{Grammar}
use Rattle.damon_control.specs.Left.{IsShort, reads_left}
use Rattle.damon_control.specs.Script.{AtRanges}
use Rattle.damon_control.proofs.head.read_ranges.Given as goal

abbrev pub invariant-more : goal.invariant-more
invariant-more l = record {
  said : (g : Grammar) → reads_left g (AtRanges l.frame l.space []) l.fn.lines ≡ reads_left g (AtRanges l.frame l.space l.specs.list) l.lines;
  sound : checked_ranges l.space l.frame.unit l.frame.cap l.specs.list ≡ Ok tt;
  some : 1 ≤ length l.specs.list;
  most : length l.specs.list ≤ l.frame.attrs.max;
  small : IsShort l.lines;
}

abbrev pub decreases-more : goal.decreases-more
decreases-more l = length l.lines.rest.now
