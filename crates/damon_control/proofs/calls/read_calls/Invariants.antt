use Rattle.std.proofs.Common.{◌≡◌, ◌≤◌, ◌+◌, ◌++◌, ◌∷◌, [], List, length, map}
use Rattle.damon_control.specs.declared.grammar.Grammar.TheVariants.{OfLive}
use Rattle.damon_control.specs.declared.live.TheConstants.{MAX_CALLS}
use Rattle.damon_control.specs.Left.{IsShort, reads_left}
use Rattle.damon_control.specs.Live.{CallValue, LiveValue, count_all}
use Rattle.damon_control.specs.LiveView.{call_value, with_controllers}
use Rattle.damon_control.specs.Script.{InBody}
use Rattle.damon_control.proofs.calls.read_calls.Given as goal

abbrev pub invariant-calls : goal.invariant-calls
invariant-calls l = record {
  said : (v : LiveValue) (cs : List (List CallValue)) → v.setup.version ≡ l.version → count_all cs ≡ l.fn.calls
      → reads_left OfLive (InBody (with_controllers v (cs ++ [] ∷ []))) l.fn.lines ≡ reads_left OfLive (InBody (with_controllers v (cs ++ map call_value l.list.list ∷ []))) l.lines;
  sum : l.calls ≡ l.fn.calls + length l.list.list;
  most : l.calls ≤ MAX_CALLS;
  small : IsShort l.lines;
  shorter : length l.lines.rest.now ≤ length l.fn.lines.rest.now;
}

abbrev pub decreases-calls : goal.decreases-calls
decreases-calls l = length l.lines.rest.now
