-- What holds along each run of the program.
use Rattle.std.specs.Prelude.{◌≡◌, ◌⊎◌, ℕ, List, Some}
use Rattle.damon_control.specs.Script.{ScriptValue}
use Rattle.damon_control.specs.Text.{IsText}
use Rattle.script_run.specs.BoundAlong.{IsBoundAlong, IsBoundFrom}
use Rattle.script_run.specs.Choices.{ChoosesBestAlong, ChoosesBestFrom}
use Rattle.script_run.specs.ScriptEvents.{script_events}
use Rattle.quota_goal.specs.declared.goals.Goal.{Goal}
use Rattle.trace_gen.specs.Gen.{gen}
use Rattle.reclaim_run.specs.Along.{CountThePages, IsReclaimedRun}
use Rattle.tune_run.specs.Along.{IsTunedRun}
use Rattle.damon_app.specs.GoalWords.{goals_of}

-- the events of each script that a text spells fit, and the states along them are bound
abbrev pub EachRunIsBound : Type 0
EachRunIsBound = (text : List ℕ) (s : ScriptValue) → IsText text s → IsBoundFrom s.setup (script_events s)

-- each aggregation along such a script applies each active scheme to the best choice within what is left of its quota
abbrev pub EachRunChoosesBest : Type 0
EachRunChoosesBest = (text : List ℕ) (s : ScriptValue) → IsText text s → ChoosesBestFrom s.setup (script_events s)

-- the same of the generated script of each number
pub record GeneratedRunsAreRight : Type 0 where
  pub bound : (n : ℕ) → IsBoundAlong (gen n)
  pub choices : (n : ℕ) → ChoosesBestAlong (gen n)

-- a script that the program can be asked to run: the one that a text spells, or the generated one of a number
abbrev pub CanRun : ScriptValue → Type 0
CanRun s = ((text : List ℕ) × IsText text s) ⊎ ((n : ℕ) × (s ≡ gen n))

-- Each such script that is run over a model of resident pages: each state along its run is bound, and each page that went out is out or
-- came back; each aggregation makes the best choices, and pages out, slot by slot, what is resident of the pages that a `pageout` scheme
-- is applied to. The figures count the pages, whatever has happened.
pub record EachRunIsAccounted : Type 0 where
  pub runs : (s : ScriptValue) → CanRun s → IsReclaimedRun s
  pub figures : CountThePages

-- goals that the program can be asked to follow: those that words say
abbrev pub CanFollow : List Goal → Type 0
CanFollow goals = (words : List (List ℕ)) × (goals_of words ≡ Some goals)

-- each script that can be run, with quotas that follow goals that words say
abbrev pub EachRunFollowsGoals : Type 0
EachRunFollowsGoals = (goals : List Goal) (s : ScriptValue) → CanFollow goals → CanRun s → IsTunedRun goals s
