use Rattle.std.proofs.Common.{◌≡◌, ◌+◌, ◌<◌, ◌&&◌, ℕ, Bool, true, List, length, map, get_or, sym, ap, subst, ◌∙◌, nat_le, nat_lt, arith}
use Rattle.std.proofs.lemmas.Bool.Decides.{nat_tests}
use Rattle.std.proofs.lemmas.List.{get_or-map, get_or_read, length-map, map-set}
use Rattle.std.specs.Prelude.{slice_set}
use Rattle.damon_control.specs.declared.live.TheConstants.{MAX_WORKERS}
use Rattle.run_journal.specs.declared.entry.Receipt.{Receipt}
use Rattle.journal_check.specs.Ahead.{ByWorker, KeepsLast, is_later, last_in, may_come, may_follow}
use Rattle.journal_text.specs.SeenLine.{with_receipt}
use Rattle.journal_text.proofs.Lemmas.{both_are}
use Rattle.journal_check.proofs.LastSeen.{keeps_more, may_by_last}
use Rattle.journal_check.proofs.receipts.order.LastSeen.admit.Goals as goal

-- whether it may come, by what was read of its page
come_is : (all : ByWorker) (workers : ℕ) (pages : List ℕ) (worker : ℕ) (r : Receipt) (number : ℕ) (last : ℕ × ℕ) (come : Bool) → KeepsLast all workers (map last_in pages) → r.page < length pages
    → number ≡ get_or pages r.page 0 → last ≡ last_in number → come ≡ may_come workers last worker r.tag → come ≡ may_follow all worker r
come_is all workers pages worker r number last come keeps inside read kept is =
    is
    ∙ ap (λ (l : ℕ × ℕ). may_come workers l worker r.tag) (kept ∙ ap last_in read ∙ sym (get_or-map last_in pages r.page 0 (0, 0) inside))
    ∙ sym (may_by_last all workers (map last_in pages) worker r (0, 0) keeps (omega (arith, inside, length-map pages last_in)))

-- the worker of one that may come is within the limit
worker_few : (workers : ℕ) (last : ℕ × ℕ) (worker tag : ℕ) → may_come workers last worker tag ≡ true → worker < MAX_WORKERS
worker_few workers last worker tag may =
    let first = both_are (nat_le workers (worker + 1) && nat_lt worker MAX_WORKERS) (is_later last worker tag) may in
    let second = both_are (nat_le workers (worker + 1)) (nat_lt worker MAX_WORKERS) first.0 in
    grind (arith, nat_tests, second.1)

pub returns-then-may-clause-may : goal.returns-then-may-clause-may
returns-then-may-clause-may c = λ all keeps.
    let pages = c.args.self.now.pages.items in
    ap (λ (b : Bool). c.args.named && b)
    (come_is all c.args.self.now.workers pages c.args.worker c.args.receipt.now c.index.result.now c.last_in-last.result c.may_come-come.result keeps c.requires.inside (get_or_read pages _ _ c.requires.inside c.index.ensures 0) c.last_in-last.ensures c.may_come-come.ensures)

pub returns-else-may-clause-may : goal.returns-else-may-clause-may
returns-else-may-clause-may c = λ all keeps.
    let pages = c.args.self.now.pages.items in
    ap (λ (b : Bool). c.args.named && b)
    (come_is all c.args.self.now.workers pages c.args.worker c.args.receipt.now c.index.result.now c.last_in-last.result c.may_come-come.result keeps c.requires.inside (get_or_read pages _ _ c.requires.inside c.index.ensures 0) c.last_in-last.ensures c.may_come-come.ensures)

pub returns-then-may-clause-next : goal.returns-then-may-clause-next
returns-then-may-clause-next c = λ all keeps is.
    let worker = c.args.worker in
    let r = c.args.receipt.now in
    let pages = c.args.self.now.pages.items in
    let number = c.packed.result in
    let come = come_is all c.args.self.now.workers pages worker r c.index.result.now c.last_in-last.result c.may_come-come.result keeps c.requires.inside (get_or_read pages _ _ c.requires.inside c.index.ensures 0) c.last_in-last.ensures c.may_come-come.ensures in
    let stored : slice_set (map last_in pages) r.page (worker, r.tag) ≡ map last_in (slice_set pages r.page number) = ap (λ (l : ℕ × ℕ). slice_set (map last_in pages) r.page l) (sym c.packed.ensures) ∙ sym (map-set last_in pages r.page number) in
    subst (λ (l : List (ℕ × ℕ)). KeepsLast (with_receipt all worker r) (c.from-number.result + 1) l) stored
    (subst (λ (n : ℕ). KeepsLast (with_receipt all worker r) (n + 1) (slice_set (map last_in pages) r.page (worker, r.tag))) (sym c.from-number.ensures)
    (keeps_more all c.args.self.now.workers (map last_in pages) worker r keeps (omega (arith, c.requires.inside, length-map pages last_in)) (sym come ∙ (both_are c.args.named c.may_come-come.result is).1)))

pub packed-requires-clause-few : goal.packed-requires-clause-few
packed-requires-clause-few c = worker_few c.args.self.now.workers c.last_in-last.result c.args.worker c.args.receipt.now.tag (sym c.may_come-come.ensures ∙ (both_are c.args.named c.may_come-come.result c.if-may.true).1)

pub packed-requires-clause-early : goal.packed-requires-clause-early
packed-requires-clause-early c = c.requires.early (both_are c.args.named c.may_come-come.result c.if-may.true).0
