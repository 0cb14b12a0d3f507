-- What an aggregation reports.
use Rattle.std.specs.Prelude.{ℕ, List}
use Rattle.damon_types.specs.declared.row.Row.{Row}
use Rattle.scheme_engine.specs.declared.applied.AppliedRun.{AppliedRun}
use Rattle.scheme_engine.specs.declared.applied.SlotChoice.{SlotChoice}
use Rattle.damon_core.specs.declared.report.Report.{Report}

-- the passes in all, the threshold of ages and merging, the rows before their counts are cleared, and the runs that schemes
-- were applied to with the choices of the set slots
pub record ReportValue : Type 0 where
  pub tick : ℕ
  pub threshold : ℕ
  pub rows : List Row
  pub runs : List AppliedRun
  pub choices : List SlotChoice

-- what a report says
abbrev pub report_value : Report → ReportValue
report_value r = record { tick = r.tick; threshold = r.threshold; rows = r.rows.rows; runs = r.applied.runs; choices = r.applied.choices }
