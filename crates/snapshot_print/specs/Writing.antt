-- How a report is written.
use Rattle.std.specs.Prelude.{ℕ, List, Result}
use Rattle.live_commit.specs.declared.fault.CommitFault.{CommitFault}
use Rattle.damon_core.specs.declared.changed.Changed.{Changed}
use Rattle.snapshot_print.specs.Printed.{Printed}

-- A way of writing a report: what a show writes, what is written of the last aggregation, the line of a commit from the tick at which
-- it was made and its answer, and the last line.
pub record Writing : Type 0 where
  pub show : Printed → List ℕ
  pub aggregate : Printed → List ℕ
  pub commit : ℕ → Result Changed CommitFault → List ℕ
  pub end : Printed → List ℕ
