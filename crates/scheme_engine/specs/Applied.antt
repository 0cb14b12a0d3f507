-- What a run was applied to, as contracts see it.
use Rattle.std.specs.Prelude.{ℕ, ◌*◌, ◌≤◌, List, length}
use Rattle.scheme_engine.specs.declared.applied.AppliedRun.{AppliedRun}
use Rattle.scheme_engine.specs.declared.applied.SlotChoice.{SlotChoice}
use Rattle.scheme_engine.specs.declared.applied.TheConstants.{RUNS_PER_ROW}
use Rattle.scheme_engine.specs.declared.slot.TheConstants.{SLOTS}

-- the runs in the order in which they were applied, the choices of the set slots, and the most rows for which there is room
pub record AppliedList : Type 0 where
  pub runs : List AppliedRun
  pub choices : List SlotChoice
  pub cap : ℕ

-- the runs and the choices fit within the room for them, which is reserved
pub record IsAppliedList (a : AppliedList) (run_space choice_space : ℕ) : Type 0 where
  pub runs : length a.runs ≤ RUNS_PER_ROW * a.cap
  pub choices : length a.choices ≤ SLOTS
  pub runs_reserved : RUNS_PER_ROW * a.cap ≤ run_space
  pub choices_reserved : SLOTS ≤ choice_space
