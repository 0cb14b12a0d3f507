-- What schemes are applied to along the run of each script within its limits, whether a text says it or not.
use Rattle.std.specs.Prelude.{◌≡◌, ℕ, List, ◌∷◌, ◌++◌}
use Rattle.live_commit.specs.Setup.{SetupValue}
use Rattle.damon_core.specs.State.{opening}
use Rattle.damon_core.specs.Event.{Event, aggregate}
use Rattle.damon_core.specs.Reached.{run}
use Rattle.damon_core.specs.Choosing.{ServesBest}
use Rattle.damon_control.specs.Script.{ScriptValue}
use Rattle.damon_control.specs.Sound.{IsSound}
use Rattle.script_run.specs.Callbacks.{Callbacks, FitAlways}
use Rattle.script_run.specs.RunWith.{unfold_with}
use Rattle.script_run.specs.Unfold.{unfold_script}

-- each aggregation among events from the opening of a setup applies each active scheme to the best choice within what is left of its
-- quota
abbrev pub ChoosesBestFrom : SetupValue → List Event → Type 0
ChoosesBestFrom setup all =
    (events rest : List Event) (words : List ℕ) → all ≡ events ++ aggregate words ∷ rest
    → ServesBest (run (opening setup) events)

-- each aggregation along the run of the script applies each active scheme to the best choice within what is left of its quota
abbrev pub ChoosesBestAlong : ScriptValue → Type 0
ChoosesBestAlong s = ChoosesBestFrom s.setup (unfold_script s)

-- the same of the run of the script with callbacks
abbrev pub ChoosesBestWith : Callbacks → ScriptValue → Type 0
ChoosesBestWith c s = ChoosesBestFrom s.setup (unfold_with c s)

-- the same for each script within its limits, with callbacks whose events fit where they are put in
abbrev pub EachRunWithCallbacksChoosesBest : Type 0
EachRunWithCallbacksChoosesBest = (c : Callbacks) → FitAlways c → (s : ScriptValue) → IsSound s → ChoosesBestWith c s

-- the same for each script within its limits, without callbacks
abbrev pub EachChoiceIsBest : Type 0
EachChoiceIsBest = (s : ScriptValue) → IsSound s → ChoosesBestAlong s
