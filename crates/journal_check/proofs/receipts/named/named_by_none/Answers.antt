use Rattle.std.proofs.Common.{◌+◌, ◌<◌, ◌==◌, ℕ, length, sym, ap, subst, arith}
use Rattle.run_journal.specs.declared.entry.Receipt.{Receipt}
use Rattle.journal_check.proofs.AheadTables.{NamesBefore, told_all, told_next}
use Rattle.journal_check.proofs.receipts.named.named_by_none.Goals as goal

pub loop-index-preserved : goal.loop-index-preserved
loop-index-preserved c =
    let xs = c.args.receipts.now in
    let k = c.loop-index.index in
    let below : k < length xs = omega (arith, c.loop-index-test.true, c.len-index-end.ensures) in
    subst (λ named. NamesBefore xs named (k + 1)) (sym c.put.ensures)
    (told_next xs c.loop-index.named k (c.get.result.1.tag == 0) below (λ d. ap (λ (x : ℕ × Receipt). x.1.tag == 0) (c.get.ensures d)) c.loop-index.invariant)

pub returns : goal.returns
returns c = told_all c.args.receipts.now c.loop-index.named c.loop-index.index (omega (arith, c.loop-index-test.false, c.len-index-end.ensures)) c.loop-index.invariant
