use Rattle.std.proofs.Common.{◌≡◌, ◌≤◌, ◌<◌, [], length}
use Rattle.std.specs.Prelude.{All}
use Rattle.damon_types.specs.Space.{pages_of}
use Rattle.damon_control.specs.declared.grammar.Grammar.TheVariants.{OfLive}
use Rattle.script_lines.specs.declared.blocks.TheConstants.{MAX_TOUCHES}
use Rattle.damon_control.specs.declared.live.TheConstants.{MAX_WORKERS}
use Rattle.damon_control.specs.Left.{IsShort, reads_left}
use Rattle.damon_control.specs.Live.{LiveValue, count_all}
use Rattle.damon_control.specs.LiveView.{NoTouch, traces_of, with_workers}
use Rattle.damon_control.specs.Script.{InBody}
use Rattle.damon_control.proofs.live_reader.read_workers.Given as goal

abbrev pub invariant-workers : goal.invariant-workers
invariant-workers l = record {
  said : (v : LiveValue) → v.setup.space ≡ l.space
      → reads_left OfLive (InBody (with_workers v [])) l.fn.lines ≡ reads_left OfLive (InBody (with_workers v (traces_of l.workers.list))) l.lines;
  sum : count_all (traces_of l.workers.list) ≡ l.touches;
  most : l.touches ≤ MAX_TOUCHES;
  few : length l.workers.list ≤ MAX_WORKERS;
  within : All (λ t. All (λ p. p < pages_of l.space) t.list) l.workers.list;
  past : 1 ≤ length l.workers.list → NoTouch l.lines.rest.now;
  small : IsShort l.lines;
}

abbrev pub decreases-workers : goal.decreases-workers
decreases-workers l = length l.lines.rest.now
