use Rattle.std.proofs.Common.{ℕ, sym, subst, ◌∙◌, arith}
use Rattle.std.specs.Prelude.{Result}
use Rattle.std.proofs.lemmas.Result.{err_from_is_err_and}
use Rattle.damon_core.specs.Stands.{MonitorView, Stands}
use Rattle.damon_control.specs.JournalHead.{head_said}
use Rattle.journal_check.specs.LinesLeft.{IsFault}
use Rattle.journal_text.specs.Place.{JournalRead, uncalled}
use Rattle.run_journal.specs.Replay.{replay}
use Rattle.run_journal.specs.Room.{nothing_said}
use Rattle.journal_check.proofs.AllSeen.{receipts_stand}
use Rattle.journal_check.proofs.verifying.read_text.Goals as goal

pub returns-in_err-take_entries-clause-fault : goal.returns-in_err-take_entries-clause-fault
returns-in_err-take_entries-clause-fault c =
    let fault = c.in_err-take_entries.field-0.0 in
    let p = err_from_is_err_and c.from_residual-in_err-take_entries.result c.from_residual-in_err-take_entries.ensures.1 in
    rw (p.1, p.2)
    (subst (λ (r : Result JournalRead ℕ). IsFault fault r) (sym c.in_ok-head.ensures.head) (c.in_err-take_entries.ensures.fault (uncalled (head_said c.in_ok-head.head)) nothing_said c.in_ok-fold.ensures.begins))

pub returns-in_err-take_receipts-clause-fault : goal.returns-in_err-take_receipts-clause-fault
returns-in_err-take_receipts-clause-fault c =
    let read = c.in_ok-take_entries.ensures.entries (uncalled (head_said c.in_ok-head.head)) nothing_said c.in_ok-fold.ensures.begins in
    let fault = c.in_err-take_receipts.field-0.0 in
    let p = err_from_is_err_and c.from_residual-in_err-take_receipts.result c.from_residual-in_err-take_receipts.ensures.1 in
    rw (p.1, p.2)
    (subst (λ (r : Result JournalRead ℕ). IsFault fault r) (sym (c.in_ok-head.ensures.head ∙ read.goes_on)) (c.in_err-take_receipts.ensures.fault read.live read.journal (receipts_stand read.stands read.next)))

pub returns-in_err-compare_last-clause-fault : goal.returns-in_err-compare_last-clause-fault
returns-in_err-compare_last-clause-fault c =
    let read = c.in_ok-take_entries.ensures.entries (uncalled (head_said c.in_ok-head.head)) nothing_said c.in_ok-fold.ensures.begins in
    let settled = c.in_ok-take_receipts.ensures.settled read.live read.journal (receipts_stand read.stands read.next) in
    let state = (replay read.live read.journal).state in
    let said : JournalRead = record { live = read.live; journal = read.journal; receipts = settled.0 } in
    let stands = subst (λ (m : MonitorView). Stands m state) (sym c.monitor.ensures) read.stands.replay.stands in
    let fault = c.in_err-compare_last.field-0.0 in
    let p = err_from_is_err_and c.from_residual-in_err-compare_last.result c.from_residual-in_err-compare_last.ensures.1 in
    rw (p.1, p.2)
    (subst (λ (r : Result JournalRead ℕ). IsFault fault r) (sym (c.in_ok-head.ensures.head ∙ read.goes_on ∙ settled.1)) (c.in_err-compare_last.ensures.fault state said stands))

pub returns-clause-read : goal.returns-clause-read
returns-clause-read c =
    let read = c.in_ok-take_entries.ensures.entries (uncalled (head_said c.in_ok-head.head)) nothing_said c.in_ok-fold.ensures.begins in
    let settled = c.in_ok-take_receipts.ensures.settled read.live read.journal (receipts_stand read.stands read.next) in
    let state = (replay read.live read.journal).state in
    let said : JournalRead = record { live = read.live; journal = read.journal; receipts = settled.0 } in
    let stands = subst (λ (m : MonitorView). Stands m state) (sym c.monitor.ensures) read.stands.replay.stands in
    record {
      read = said;
      is = c.in_ok-head.ensures.head ∙ read.goes_on ∙ settled.1 ∙ c.in_ok-compare_last.ensures.ok state said stands;
      opens = read.stands.replay.opens;
      counted = read.stands.counts;
      kept_is = read.stands.kept;
    }

pub returns-clause-few : goal.returns-clause-few
returns-clause-few c = omega (arith, c.in_ok-take_entries.ensures.within.entries, c.take_entries.ensures.short)
