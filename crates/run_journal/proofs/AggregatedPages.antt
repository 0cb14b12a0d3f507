-- Each aggregation of a journal reports all pages of the ranges.
use Rattle.std.proofs.Common.{◌*◌, List, [], ◌∷◌, refl}
use Rattle.std.specs.List.{AllByRecursion}
use Rattle.damon_core.specs.InPhase.{IsInPhase}
use Rattle.damon_core.specs.Reached.{CanOpen, Reached}
use Rattle.damon_core.specs.State.{State}
use Rattle.damon_control.specs.Live.{LiveValue}
use Rattle.run_journal.specs.declared.entry.Entry.{Entry}
use Rattle.run_journal.specs.declared.entry.Entry.TheVariants.{Prepare, Check, Void, Aggregate, Call}
use Rattle.run_journal.specs.Aggregated.{ReportsAll, aggregated, aggregated_from}
use Rattle.run_journal.specs.Replay.{EntriesFit, IsJournalOf, JournalValue, Replayed, begun, carried}
use Rattle.run_journal.specs.Words.{words_at}
use Rattle.damon_core.proofs.Lemmas.{reports_all}
use Rattle.run_journal.proofs.Fitting.{carried_reached}

module _ (in_phase : (s : State) → Reached s → IsInPhase s) (v : LiveValue) where
  next_reached : (r : Replayed) (e : Entry) (es : List Entry) → Reached r.state → EntriesFit v r (e ∷ es) → Reached (carried v r e).state
  next_reached r e es reached fit = carried_reached v r e (in_phase r.state reached).some reached fit.0

  from : (es : List Entry) (r : Replayed) → Reached r.state → EntriesFit v r es → AllByRecursion ReportsAll (aggregated_from v r es)
  from [] r reached fit = tt
  from (Prepare pass pos ∷ es) r reached fit = from es (carried v r (Prepare pass pos)) (next_reached r (Prepare pass pos) es reached fit) fit.1
  from (Check pass ∷ es) r reached fit = from es (carried v r (Check pass)) (next_reached r (Check pass) es reached fit) fit.1
  from (Void pass ∷ es) r reached fit = from es (carried v r (Void pass)) (next_reached r (Void pass) es reached fit) fit.1
  from (Aggregate tick pos ∷ es) r reached fit = (
    record {
      reached = next_reached r (Aggregate tick pos) es reached fit;
      pages = reports_all r.state (words_at v.seed r.drawn (2 * r.state.core.attrs.max)) reached fit.0.0;
    },
    from es (carried v r (Aggregate tick pos)) (next_reached r (Aggregate tick pos) es reached fit) fit.1,
  )
  from (Call controller index answer ∷ es) r reached fit = from es (carried v r (Call controller index answer)) (next_reached r (Call controller index answer) es reached fit) fit.1

pub each_reports_all : ((s : State) → Reached s → IsInPhase s) → (v : LiveValue) (j : JournalValue) → CanOpen v.setup → IsJournalOf v j → AllByRecursion ReportsAll (aggregated v j)
each_reports_all in_phase v j can is =
    from in_phase v j.entries (begun v j.bits) (record { setup = v.setup; events = []; can_open = can; fit = tt; is = refl }) is.fit
