-- What holds along the run of each script within its limits, whether a text says it or not, with callbacks or without.
use Rattle.std.specs.Prelude.{◌≡◌, List, ◌++◌}
use Rattle.live_commit.specs.Setup.{SetupValue}
use Rattle.damon_core.specs.State.{opening}
use Rattle.damon_core.specs.Event.{Event}
use Rattle.damon_core.specs.Reached.{AllFit, run}
use Rattle.damon_core.specs.Bound.{Bound}
use Rattle.damon_control.specs.Script.{ScriptValue}
use Rattle.damon_control.specs.Sound.{IsSound}
use Rattle.script_run.specs.Callbacks.{Callbacks, FitAlways}
use Rattle.script_run.specs.RunWith.{unfold_with}
use Rattle.script_run.specs.Unfold.{unfold_script}

-- Events fit from the opening of a setup, and each state to which a prefix of them leads is bound.
pub record IsBoundFrom (setup : SetupValue) (all : List Event) : Type 0 where
  pub fit : AllFit (opening setup) all
  pub bound : (events rest : List Event) → all ≡ events ++ rest → Bound (run (opening setup) events)

-- The events of the script fit from the opening of its setup, and each state to which a prefix of them leads is bound.
abbrev pub IsBoundAlong : ScriptValue → Type 0
IsBoundAlong s = IsBoundFrom s.setup (unfold_script s)

-- the same of its events with those that callbacks put in
abbrev pub IsBoundWith : Callbacks → ScriptValue → Type 0
IsBoundWith c s = IsBoundFrom s.setup (unfold_with c s)

-- the same for each script within its limits, with callbacks whose events fit where they are put in
abbrev pub EachRunWithCallbacksIsBound : Type 0
EachRunWithCallbacksIsBound = (c : Callbacks) → FitAlways c → (s : ScriptValue) → IsSound s → IsBoundWith c s

-- the same for each script within its limits, without callbacks
abbrev pub EachScriptIsBound : Type 0
EachScriptIsBound = (s : ScriptValue) → IsSound s → IsBoundAlong s
