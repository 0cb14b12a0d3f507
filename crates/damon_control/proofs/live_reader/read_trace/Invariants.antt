use Rattle.std.proofs.Common.{◌≡◌, ◌≤◌, ◌<◌, ◌+◌, ◌++◌, ◌∷◌, [], ℕ, List, length}
use Rattle.std.specs.Prelude.{All}
use Rattle.damon_types.specs.Space.{pages_of}
use Rattle.damon_control.specs.declared.grammar.Grammar.TheVariants.{OfLive}
use Rattle.script_lines.specs.declared.blocks.TheConstants.{MAX_TOUCHES}
use Rattle.damon_control.specs.Left.{IsShort, reads_left}
use Rattle.damon_control.specs.Live.{LiveValue, count_all}
use Rattle.damon_control.specs.LiveView.{with_workers}
use Rattle.damon_control.specs.Script.{InBody}
use Rattle.damon_control.proofs.live_reader.read_trace.Given as goal

abbrev pub invariant-touches : goal.invariant-touches
invariant-touches l = record {
  said : (v : LiveValue) (ws : List (List ℕ)) → v.setup.space ≡ l.space → count_all ws ≡ l.fn.touches
      → reads_left OfLive (InBody (with_workers v (ws ++ [] ∷ []))) l.fn.lines ≡ reads_left OfLive (InBody (with_workers v (ws ++ l.trace.list ∷ []))) l.lines;
  sum : l.touches ≡ l.fn.touches + length l.trace.list;
  most : l.touches ≤ MAX_TOUCHES;
  within : All (λ p. p < pages_of l.space) l.trace.list;
  small : IsShort l.lines;
  shorter : length l.lines.rest.now ≤ length l.fn.lines.rest.now;
}

abbrev pub decreases-touches : goal.decreases-touches
decreases-touches l = length l.lines.rest.now
