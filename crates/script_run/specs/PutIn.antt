-- What callbacks put in is accepted.
use Rattle.std.specs.Prelude.{◌≡◌, List, [], ◌∷◌, ◌++◌, Ok}
use Rattle.damon_core.specs.After.{after}
use Rattle.damon_core.specs.Commit.{check_of}
use Rattle.damon_core.specs.Event.{Event, commit}
use Rattle.damon_core.specs.State.{State}
use Rattle.damon_control.specs.Script.{ScriptValue}
use Rattle.script_run.specs.Callbacks.{Callbacks, put_after}
use Rattle.script_run.specs.Course.{going_with}
use Rattle.script_run.specs.Going.{onward}
use Rattle.script_run.specs.RunWith.{own_events, start_with}

-- an event is a commit that is accepted
abbrev pub IsAccepted : State → Event → Type 0
IsAccepted s (commit parts) = check_of parts s.core ≡ Ok tt
IsAccepted s _ = ⊥

-- each of these events is a commit that is accepted where it is made
abbrev pub AllAccepted : State → List Event → Type 0
AllAccepted s [] = Unit {0}
AllAccepted s (e ∷ es) = IsAccepted s e × AllAccepted (after s e) es

-- each event that callbacks put in after an event of the script is a commit that is accepted
abbrev pub PutsAreAccepted : Callbacks → ScriptValue → Type 0
PutsAreAccepted c s =
    (made rest : List Event) (e : Event) → own_events c s ≡ made ++ e ∷ rest
    → let r = onward (going_with c) (start_with c s) made in AllAccepted (after r.moment.state e) (put_after c r.memory r.moment.state e)
