-- The states of a replay directly after its aggregations.
use Rattle.std.specs.Prelude.{◌≡◌, List, [], ◌∷◌}
use Rattle.damon_types.specs.RowPages.{row_pages}
use Rattle.damon_types.specs.Ranges.{page_total}
use Rattle.damon_core.specs.Reached.{Reached}
use Rattle.damon_core.specs.State.{State}
use Rattle.damon_control.specs.Live.{LiveValue}
use Rattle.run_journal.specs.declared.entry.Entry.{Entry}
use Rattle.run_journal.specs.declared.entry.Entry.TheVariants.{Prepare, Check, Void, Aggregate, Call}
use Rattle.run_journal.specs.Replay.{JournalValue, Replayed, begun, carried}

-- the states directly after the aggregations among entries
abbrev pub aggregated_from : LiveValue → Replayed → List Entry → List State
aggregated_from v r [] = []
aggregated_from v r (Prepare pass position ∷ es) = aggregated_from v (carried v r (Prepare pass position)) es
aggregated_from v r (Check pass ∷ es) = aggregated_from v (carried v r (Check pass)) es
aggregated_from v r (Void pass ∷ es) = aggregated_from v (carried v r (Void pass)) es
aggregated_from v r (Aggregate tick position ∷ es) =
    (carried v r (Aggregate tick position)).state ∷ aggregated_from v (carried v r (Aggregate tick position)) es
aggregated_from v r (Call controller index answer ∷ es) = aggregated_from v (carried v r (Call controller index answer)) es

-- the states directly after the aggregations of a journal
abbrev pub aggregated : LiveValue → JournalValue → List State
aggregated v j = aggregated_from v (begun v j.bits) j.entries

-- a state is reached, and its report has all pages of the ranges that are watched
pub record ReportsAll (s : State) : Type 0 where
  pub reached : Reached s
  pub pages : row_pages s.core.report.rows ≡ page_total s.core.regions.ranges
