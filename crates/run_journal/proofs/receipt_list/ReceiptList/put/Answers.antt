use Rattle.std.proofs.Common.{◌≡◌, ◌∙◌, ℕ, ◌-◌, List, [], ◌∷◌, ◌++◌, length, ap}
use Rattle.damon_types.specs.Listed.{Listed}
use Rattle.run_journal.specs.declared.entry.Receipt.{Receipt}
use Rattle.run_journal.specs.ReceiptColumns.{Quarters, receipts_in}
use Rattle.run_journal.proofs.ReceiptColumns.{AreKept, kept_at, kept_pushed, receipt_put}
use Rattle.run_journal.proofs.receipt_list.ReceiptList.put.Goals as goal

pub returns : goal.returns
returns c =
    let l = c.self.inside in
    let n : ℕ = c.len-place.result in
    let place : n ≡ length l.pages.items = c.len-place.ensures ∙ l.pages.ok.0 in
    let q : Quarters = record { first = l.first.items; second = l.second.items; third = l.third.items; fourth = l.fourth.items } in
    let next : Quarters = record {
      first = c.push_reserved-2.new.self.items;
      second = c.keep_quarter.new.quarters.items;
      third = c.keep_quarter-2.new.quarters.items;
      fourth = c.keep_quarter-3.new.quarters.items;
    } in
    let kept : AreKept q next (length l.pages.items) c.args.item.tag = record {
      first = kept_pushed _ _ _ _ c.self.invariant.0.first c.push_reserved-2.ensures.items;
      second = kept_at _ _ n _ _ place c.keep_quarter.ensures.here c.keep_quarter.ensures.others;
      third = kept_at _ _ n _ _ place c.keep_quarter-2.ensures.here c.keep_quarter-2.ensures.others;
      fourth = kept_at _ _ n _ _ place c.keep_quarter-3.ensures.here c.keep_quarter-3.ensures.others;
    } in
    let put = ap (λ (ps : List ℕ). receipts_in ps next) c.push_reserved.ensures.items ∙ receipt_put l.pages.items q next c.args.item kept in
    ap (λ (rs : List Receipt). record { list = rs; spare = l.room - 1 }) put
    ∙ ap (λ (v : Listed Receipt). record { list = v.list ++ c.args.item ∷ []; spare = v.spare - 1 }) c.self.view_is
