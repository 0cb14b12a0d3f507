use Rattle.std.proofs.Common.{ℕ, ◌≤◌, List, [], ◌∷◌, ◌∙◌}
use Rattle.std.specs.List.{AllByRecursion}
use Rattle.damon_core.specs.State.{State}
use Rattle.run_journal.specs.Aggregated.{ReportsAll, aggregated}
use Rattle.damon_app.specs.Heating.{AddUp}
use Rattle.damon_core.proofs.Lemmas.{reached_reported}
use Rattle.heat_report.proofs.Lemmas.{freqs_total, heat_of_rows, tiled_rows_lie}
use Rattle.run_journal.proofs.Lemmas.{each_reports_all}
use Rattle.damon_app.proofs.laws.heat_tables_add_up.Goals as goal

all_states : {P Q : State → Type 0} → ((s : State) → P s → Q s) → (states : List State) → AllByRecursion P states → AllByRecursion Q states
all_states f [] all = tt
all_states f (s ∷ states) all = (f s all.0, all_states f states all.1)

pub returns : goal.returns
returns c n v j some can is =
    let one : (s : State) → ReportsAll s → AddUp n s = λ s whole.
    let told = reached_reported s whole.reached in
    let lie = tiled_rows_lie told.unit s.core.space told.ranges s.core.report.rows told.order told.within told.tiles in
    record {
      heat = λ target within. heat_of_rows n target s.core.space s.core.report.rows some within lie;
      freq = freqs_total s.core.attrs.aggr s.core.report.rows ∙ whole.pages;
    } in
    all_states {P = ReportsAll} {Q = AddUp n} one (aggregated v j) (each_reports_all c.reached_states_are_bound.ensures.in_phase v j can is)
