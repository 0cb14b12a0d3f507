use Rattle.std.proofs.Common.{◌≡◌, ◌≤◌, Ok, [], length}
use Rattle.damon_types.specs.Space.{checked}
use Rattle.damon_control.specs.declared.grammar.Grammar.{Grammar}
use Rattle.script_lines.specs.declared.setup.Frame.{Frame}
use Rattle.damon_control.specs.Left.{IsShort, reads_left}
use Rattle.damon_control.specs.Script.{AtTargets}
use Rattle.damon_control.proofs.head.read_targets.Given as goal

abbrev pub invariant-targets : goal.invariant-targets
invariant-targets l = record {
  said : (g : Grammar) (f : Frame) → reads_left g (AtTargets f []) l.fn.lines ≡ reads_left g (AtTargets f l.targets.items) l.lines;
  sound : checked l.targets.items ≡ Ok tt;
  some : 1 ≤ length l.targets.items;
  few : length l.targets.items ≤ 64;
  small : IsShort l.lines;
}

abbrev pub decreases-targets : goal.decreases-targets
decreases-targets l = length l.lines.rest.now
