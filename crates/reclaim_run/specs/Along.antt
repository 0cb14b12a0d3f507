-- What holds along the run of each script within its limits under proactive reclaim.
use Rattle.std.specs.Prelude.{◌≡◌, ◌↔◌, ℕ, ◌+◌, true, List, ◌∷◌, ◌++◌}
use Rattle.damon_core.specs.Event.{Event, aggregate}
use Rattle.damon_core.specs.Note.{Note}
use Rattle.damon_core.specs.Reached.{run}
use Rattle.damon_core.specs.State.{State, opening}
use Rattle.damon_control.specs.Script.{ScriptValue}
use Rattle.damon_control.specs.Sound.{IsSound}
use Rattle.script_run.specs.BoundAlong.{IsBoundWith}
use Rattle.script_run.specs.Choices.{ChoosesBestWith}
use Rattle.script_run.specs.PutIn.{PutsAreAccepted}
use Rattle.script_run.specs.RunWith.{unfold_with}
use Rattle.reclaim_module.specs.Out.{IsOutSinceLast, is_out}
use Rattle.reclaim_module.specs.SlotBySlot.{PagesOutSlotBySlot}
use Rattle.reclaim_run.specs.Reclaimed.{figures_in, pages_in, reclaim_callbacks}

-- each page that went out is out, or came back by a touch or a prefetch
abbrev pub IsBalanced : State → Type 0
IsBalanced s =
    (figures_in s).counts.pageouts
    ≡ (figures_in s).out + ((figures_in s).counts.refaults + (figures_in s).counts.prefetches)

-- Along the run of the script under proactive reclaim: each state is bound, and each page that went out is out or came back; each commit
-- of the share is accepted; each aggregation applies each active scheme to the best choice, and pages out, slot by slot, what of it is
-- resident.
pub record IsReclaimedRun (s : ScriptValue) : Type 0 where
  pub bound : IsBoundWith reclaim_callbacks s
  pub choices : ChoosesBestWith reclaim_callbacks s
  pub accepted : PutsAreAccepted reclaim_callbacks s
  pub balance : (events rest : List Event) → unfold_with reclaim_callbacks s ≡ events ++ rest
      → IsBalanced (run (opening s.setup) events)
  pub pageouts : (events rest : List Event) (words : List ℕ)
      → unfold_with reclaim_callbacks s ≡ events ++ aggregate words ∷ rest
      → PagesOutSlotBySlot (run (opening s.setup) events)

-- the same for each script within its limits
abbrev pub EachReclaimedRun : Type 0
EachReclaimedRun = (s : ScriptValue) → IsSound s → IsReclaimedRun s

-- What the figures count, whatever has happened: each page of the space is resident or out. It is out exactly where a `pageout` scheme
-- was run with it in a run, and since then it was neither touched nor prefetched.
pub record CountThePages : Type 0 where
  pub pages : (s : State) → (figures_in s).resident + (figures_in s).out ≡ pages_in s
  pub out : (notes : List Note) (page : ℕ) → (is_out notes page ≡ true) ↔ IsOutSinceLast notes page
