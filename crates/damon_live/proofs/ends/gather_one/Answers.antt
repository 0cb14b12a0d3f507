use Rattle.std.proofs.Common.{[], ◌∷◌, ◌++◌, ap, ◌∙◌}
use Rattle.damon_types.specs.Listed.{Listed}
use mathlib.Core.List.{map-append}
use Rattle.page_words.specs.declared.view.Entry.TheVariants.{Gathered}
use Rattle.page_words.specs.Seats.{MonitorSeatView}
use Rattle.run_journal.specs.declared.entry.Receipt.{Receipt}
use Rattle.run_journal.specs.Lawful.{receipts_said, touches_of}
use Rattle.damon_live.proofs.ends.gather_one.Goals as goal

pub returns-clause-gathered : goal.returns-clause-gathered
returns-clause-gathered g c =
    let done = c.args.done in
    let old = c.args.seat.now.entries in
    let rs = done.receipts.list in
    record {
      receipts = rs;
      more = ap receipts_said c.put.ensures ∙ map-append (λ (l : Listed Receipt). l.list) c.args.all.now.list (done.receipts ∷ []);
      entries = ap (λ (s : MonitorSeatView). s.entries) c.gather.ensures.seat ∙ (ap (λ ts. old ++ Gathered done.seat.worker ts ∷ []) done.touches ∙ ap (λ w. old ++ Gathered w (touches_of rs) ∷ []) done.number);
      trace = done.whole;
    }
