-- What `heat` writes.
use Rattle.std.specs.Prelude.{◌≡◌, ℕ, ◌<◌, List, [], ◌∷◌, ◌++◌, flat_map, length, map, sum, Option}
use Rattle.damon_core.specs.State.{State}
use Rattle.run_journal.specs.Aggregated.{aggregated}
use Rattle.journal_text.specs.Place.{JournalRead}
use Rattle.journal_check.specs.Replayer.{Leads, ReplayerView}
use Rattle.damon_types.specs.Ranges.{page_total}
use Rattle.damon_types.specs.RowPages.{working_set}
use Rattle.heat_report.specs.Freq.{freqs}
use Rattle.heat_report.specs.Heat.{target_heats, target_total}
use Rattle.heat_report.specs.Text.{last_line, report_text}
use Rattle.damon_app.specs.Pieces.{HandsOver}
use Rattle.damon_app.specs.declared.request.Columns.{Columns}
use Rattle.damon_app.specs.declared.request.Columns.TheVariants.{Eight, Sixteen, SixtyFour}

-- how many columns each target has
abbrev pub columns_in : Columns → ℕ
columns_in Eight = 8
columns_in Sixteen = 16
columns_in SixtyFour = 64

-- what is written of a state directly after an aggregation: the tables of its report
abbrev pub tables_of : ℕ → State → List ℕ
tables_of n s = report_text n s.core.ticks s.core.report.rows s.core.space s.core.attrs.aggr

-- what is written of such states one after another: their tables, and at last the spread of their working sets
abbrev pub tables_text : ℕ → List State → List ℕ
tables_text n states = flat_map (tables_of n) states ++ last_line (map (λ s. working_set s.core.report.rows) states)

-- The numbers of these tables add up: the heat of the columns of each target sums to the sum of pages × count over its rows, and the
-- numbers of `freq` sum to the pages of all ranges.
pub record AddUp (n : ℕ) (s : State) : Type 0 where
  pub heat : (target : ℕ) → target < length s.core.space
      → sum (target_heats s.core.report.rows s.core.space target n) ≡ target_total s.core.report.rows target
  pub freq : sum (freqs s.core.attrs.aggr s.core.report.rows) ≡ page_total s.core.regions.ranges

-- How far the tables of a replay are: what is left of it, the working sets of the reports so far, the text that is not handed over
-- yet, and what the sink took.
pub record HeatProgress : Type 0 where
  pub replay : ReplayerView
  pub sizes : List ℕ
  pub piece : List ℕ
  pub taken : Option (List ℕ)

-- the first of the states to come was written: its tables followed the piece, of which the front may have been handed over, and its
-- working set the others
pub record IsWrittenNext (n : ℕ) (old new : HeatProgress) (states : List State) (last : State) : Type 0 where
  pub state : State
  pub rest : List State
  pub first : states ≡ state ∷ rest
  pub leads : Leads rest last new.replay
  pub sizes : new.sizes ≡ old.sizes ++ working_set state.core.report.rows ∷ []
  pub handed : HandsOver old.taken new.taken (old.piece ++ tables_of n state) new.piece

-- whatever states the replay leads through, the first was written
abbrev pub WritesNext : ℕ → HeatProgress → HeatProgress → Type 0
WritesNext n old new = (states : List State) (last : State) → Leads states last old.replay → IsWrittenNext n old new states last

-- the heat tables of a journal: those of the states of its replay directly after each aggregation
abbrev pub heat_text : Columns → JournalRead → List ℕ
heat_text columns said = tables_text (columns_in columns) (aggregated said.live said.journal)
