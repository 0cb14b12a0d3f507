use Rattle.std.proofs.Common.{◌∙◌, length, sym, ap}
use Rattle.damon_types.specs.Listed.{Listed}
use Rattle.run_journal.specs.declared.entry.Receipt.{Receipt}
use Rattle.run_journal.proofs.ReceiptColumns.{receipts_count}
use Rattle.run_journal.proofs.receipt_list.ReceiptList.len.Goals as goal

pub returns : goal.returns
returns c =
    let l = c.self.inside in
    c.len.ensures ∙ l.pages.ok.0 ∙ sym (receipts_count l.pages.items _) ∙ ap (λ (v : Listed Receipt). length v.list) c.self.view_is
