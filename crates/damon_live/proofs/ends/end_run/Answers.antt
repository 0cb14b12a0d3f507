use Rattle.std.proofs.Common.{◌≡◌, ◌++◌, sym, ap, ◌∙◌, subst}
use Rattle.page_words.specs.Seats.{MonitorSeatView}
use Rattle.run_journal.specs.Lawful.{gathers, receipts_said}
use Rattle.run_journal.specs.Replay.{JournalValue, check_sizes, replay}
use Rattle.run_journal.specs.Steps.{steps}
use Rattle.damon_core.specs.Stands.{Stands}
use Rattle.damon_live.specs.Whole.{IsWholeRun}
use Rattle.damon_live.proofs.Wholes.{whole_run}
use Rattle.damon_live.proofs.ends.end_run.Goals as goal

pub gather_all-requires-clause-seat : goal.gather_all-requires-clause-seat
gather_all-requires-clause-seat g c = ap (λ (s : MonitorSeatView). s.table) c.into_parts-monitor.ensures.seat

pub gather_all-requires-clause-out : goal.gather_all-requires-clause-out
gather_all-requires-clause-out g c = ap (λ (s : MonitorSeatView). s.out) c.into_parts-monitor.ensures.seat ∙ sym c.requires.each

pub returns-clause-run : goal.returns-clause-run
returns-clause-run g c =
    let v = g.N.Named.script in
    let parts = c.into_parts-monitor.ensures in
    let got = c.gather_all.ensures in
    let settled = c.settle.ensures in
    let all = receipts_said c.gather_all.new.all in
    let entries : c.gather_all.new.seat.entries ≡ steps v c.args.kept ++ gathers 0 all = got.entries ∙ ap (λ (s : MonitorSeatView). s.entries ++ gathers 0 all) parts.seat in
    let run = whole_run v c.args.kept all c.settle.result c.gather_all.new.seat.entries c.woven_runs.ensures c.hits_are_few.ensures parts.can parts.fits c.requires.made parts.calls parts.most entries settled.agree settled.tags got.traces c.requires.pages in
    subst (λ (j : JournalValue). IsWholeRun v j all) (sym parts.journal) run

pub returns-clause-stands : goal.returns-clause-stands
returns-clause-stands g c = subst (λ (j : JournalValue). Stands c.into_parts-monitor.result.monitor (replay g.N.Named.script j).state) (sym c.into_parts-monitor.ensures.journal) c.into_parts-monitor.ensures.stands

pub returns-clause-sizes : goal.returns-clause-sizes
returns-clause-sizes g c = c.into_parts-monitor.ensures.sizes ∙ ap (check_sizes g.N.Named.script) (sym c.into_parts-monitor.ensures.journal)
