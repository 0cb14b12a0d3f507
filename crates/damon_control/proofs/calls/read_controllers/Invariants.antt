use Rattle.std.proofs.Common.{◌≡◌, ◌≤◌, [], length}
use Rattle.damon_control.specs.declared.grammar.Grammar.TheVariants.{OfLive}
use Rattle.damon_control.specs.declared.live.TheConstants.{MAX_CALLS, MAX_CONTROLLERS}
use Rattle.damon_control.specs.Left.{IsShort, reads_left}
use Rattle.damon_control.specs.Live.{LiveValue, count_all}
use Rattle.damon_control.specs.LiveView.{NoCall, calls_of, with_controllers}
use Rattle.damon_control.specs.Script.{InBody}
use Rattle.damon_control.proofs.calls.read_controllers.Given as goal

abbrev pub invariant-controllers : goal.invariant-controllers
invariant-controllers l = record {
  said : (v : LiveValue) → v.setup.version ≡ l.version → reads_left OfLive (InBody (with_controllers v [])) l.fn.lines ≡ reads_left OfLive (InBody (with_controllers v (calls_of l.controllers.list))) l.lines;
  sum : count_all (calls_of l.controllers.list) ≡ l.calls;
  most : l.calls ≤ MAX_CALLS;
  few : length l.controllers.list ≤ MAX_CONTROLLERS;
  past : 1 ≤ length l.controllers.list → NoCall l.lines.rest.now;
  same : l.controllers.list ≡ [] → l.lines ≡ l.fn.lines;
  small : IsShort l.lines;
}

abbrev pub decreases-controllers : goal.decreases-controllers
decreases-controllers l = length l.lines.rest.now
