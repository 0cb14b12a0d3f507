use Rattle.std.proofs.Common.{◌≡◌, ◌≤◌, true, IfSome, length}
use Rattle.live_commit.specs.Commit.{commit_value}
use Rattle.damon_control.specs.declared.grammar.Grammar.{Grammar}
use Rattle.script_lines.specs.Body.{wants_slot}
use Rattle.damon_control.specs.Left.{IsShort, reads_left}
use Rattle.damon_control.specs.Script.{InCommit, Within}
use Rattle.damon_control.proofs.commit.read_ranges.Given as goal

abbrev pub invariant-lines : goal.invariant-lines
invariant-lines l = record {
  wanted : wants_slot (commit_value l.commit) ≡ true;
  said : (g : Grammar) (b : Within g) → reads_left g (InCommit b (commit_value l.fn.commit)) l.fn.lines ≡ reads_left g (InCommit b (commit_value l.commit)) l.lines;
  few : IfSome l.commit.ranges (λ r. length r.list ≤ l.lines.taken);
  later : l.fn.lines.taken ≤ l.lines.taken;
  shorter : length l.lines.rest.now ≤ length l.fn.lines.rest.now;
  small : IsShort l.lines;
}

abbrev pub decreases-lines : goal.decreases-lines
decreases-lines l = length l.lines.rest.now
