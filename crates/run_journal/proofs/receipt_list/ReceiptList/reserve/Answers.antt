use Rattle.std.proofs.Common.{length, ap, arith}
use Rattle.damon_types.specs.Listed.{Listed}
use Rattle.run_journal.specs.declared.entry.Receipt.{Receipt}
use Rattle.run_journal.specs.ReceiptColumns.{Quarters}
use Rattle.run_journal.proofs.ReceiptColumns.{receipts_count}
use Rattle.run_journal.proofs.receipt_list.ReceiptList.reserve.Goals as goal

pub invariant_of-self-then-self-extra : goal.invariant_of-self-then-self-extra
invariant_of-self-then-self-extra c =
    let l = c.self.inside in
    let q : Quarters = record { first = l.first.items; second = l.second.items; third = l.third.items; fourth = l.fourth.items } in
    let columns = c.self.invariant.0 in
    let count = receipts_count l.pages.items q in
    let view = ap (λ (v : Listed Receipt). length v.list) c.self.view_is in
    let pages = ap length c.reserve.ensures.items in (
      record {
        first = omega (arith, columns.first, pages, ap length c.reserve-then-self-extra.ensures.items);
        second = omega (arith, columns.second, pages, ap length c.reserve-then-self-extra-2.ensures.items);
        third = omega (arith, columns.third, pages, ap length c.reserve-then-self-extra-3.ensures.items);
        fourth = omega (arith, columns.fourth, pages, ap length c.reserve-then-self-extra-4.ensures.items);
      },
      record {
        few = omega (arith, c.requires, view, count, l.pages.ok.0, c.reserve.ensures.len);
        page = omega (arith, c.in_ok-reserve.ensures.ok);
        first = omega (arith, c.in_ok-reserve-2.ensures.ok, columns.first, l.pages.ok.0, l.first.ok.0, c.reserve.ensures.len, c.reserve-then-self-extra.ensures.len);
        second = omega (arith, c.in_ok-reserve-3.ensures.ok, columns.second, l.pages.ok.0, l.second.ok.0, c.reserve.ensures.len, c.reserve-then-self-extra-2.ensures.len, c.len-before.ensures, c.len.ensures);
        third = omega (arith, c.in_ok-reserve-4.ensures.ok, columns.third, l.pages.ok.0, l.third.ok.0, c.reserve.ensures.len, c.reserve-then-self-extra-3.ensures.len, c.len-before.ensures, c.len-then-self-extra.ensures);
        fourth = omega (arith, c.in_ok-reserve-5.ensures.ok, columns.fourth, l.pages.ok.0, l.fourth.ok.0, c.reserve.ensures.len, c.reserve-then-self-extra-4.ensures.len, c.len-before.ensures, c.len-then-self-extra-2.ensures);
      },
    )
