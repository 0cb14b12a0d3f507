use Rattle.std.proofs.Common.{◌≡◌, ℕ, ◌≤◌, length}
use Rattle.damon_types.specs.Space.{pages_of}
use Rattle.live_commit.specs.SetupView.{value_of}
use Rattle.damon_control.specs.declared.grammar.Grammar.TheVariants.{OfScript}
use Rattle.damon_control.specs.declared.script.TheConstants.{MAX_WORK}
use Rattle.script_lines.specs.Command.{work_of}
use Rattle.damon_control.specs.BodyLine.{body_at}
use Rattle.script_lines.specs.Limits.{AreCommandsWithin}
use Rattle.damon_control.specs.Left.{IsShort, reads_left}
use Rattle.damon_control.specs.Script.{InBody, begun}
use Rattle.damon_control.proofs.body.read_body.Given as goal

abbrev pub invariant-lines : goal.invariant-lines
invariant-lines l = record {
  said : (seed : ℕ) → reads_left OfScript (InBody (begun seed (value_of l.setup))) l.fn.lines
      ≡ reads_left OfScript (InBody (body_at seed (value_of l.setup) l.commands.list l.work)) l.lines;
  within : AreCommandsWithin (pages_of l.setup.space) l.commands.list;
  few : length l.commands.list ≤ l.lines.taken;
  sum : l.work ≡ work_of l.setup.cap l.commands.list;
  most : l.work ≤ MAX_WORK;
  small : IsShort l.lines;
}

abbrev pub decreases-lines : goal.decreases-lines
decreases-lines l = length l.lines.rest.now
