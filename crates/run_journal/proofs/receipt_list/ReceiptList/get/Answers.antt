use Rattle.std.proofs.Common.{◌≡◌, ◌∙◌, ℕ, ◌+◌, ◌*◌, ◌<◌, List, Some, length, sym, ap, arith}
use Rattle.std.specs.Prelude.{slice_get, slice_index}
use Rattle.std.proofs.lemmas.List.{get_or_read}
use Rattle.damon_types.specs.Listed.{Listed}
use Rattle.run_journal.specs.declared.entry.Receipt.{Receipt}
use Rattle.run_journal.specs.ReceiptColumns.{Quarters, tag_at}
use Rattle.run_journal.proofs.ReceiptColumns.{receipt_at, receipts_count}
use Rattle.run_journal.proofs.receipt_list.ReceiptList.get.Goals as goal

pub index-requires : goal.index-requires
index-requires c =
    let l = c.self.inside in
    let q : Quarters = record { first = l.first.items; second = l.second.items; third = l.third.items; fourth = l.fourth.items } in
    omega (arith, c.requires, ap (λ (v : Listed Receipt). length v.list) c.self.view_is, receipts_count l.pages.items q, l.first.ok.0, c.self.invariant.0.first)

pub index-requires-2 : goal.index-requires-2
index-requires-2 c =
    let l = c.self.inside in
    let q : Quarters = record { first = l.first.items; second = l.second.items; third = l.third.items; fourth = l.fourth.items } in
    omega (arith, c.requires, ap (λ (v : Listed Receipt). length v.list) c.self.view_is, receipts_count l.pages.items q, l.pages.ok.0)

pub returns : goal.returns
returns c =
    let l = c.self.inside in
    let i : ℕ = c.args.index in
    let q : Quarters = record { first = l.first.items; second = l.second.items; third = l.third.items; fourth = l.fourth.items } in
    let below : i < length l.pages.items = omega (arith, c.requires, ap (λ (v : Listed Receipt). length v.list) c.self.view_is, receipts_count l.pages.items q) in
    let first_below : i < length l.first.items = omega (arith, below, c.self.invariant.0.first) in
    let page : c.index-2.result.now ≡ slice_index l.pages.items i = get_or_read l.pages.items i c.index-2.result.now below c.index-2.ensures 0 in
    let first : c.from.result ≡ slice_index l.first.items i = c.from.ensures ∙ get_or_read l.first.items i c.index.result.now first_below c.index.ensures 0 in
    let second : c.quarter_at.result ≡ slice_index l.second.items i = c.quarter_at.ensures.exact ∙ ap (λ (qs : List ℕ). slice_index qs i) c.deref.ensures.value in
    let third : c.quarter_at-2.result ≡ slice_index l.third.items i = c.quarter_at-2.ensures.exact ∙ ap (λ (qs : List ℕ). slice_index qs i) c.deref-2.ensures.value in
    let fourth : c.quarter_at-3.result ≡ slice_index l.fourth.items i = c.quarter_at-3.ensures.exact ∙ ap (λ (qs : List ℕ). slice_index qs i) c.deref-3.ensures.value in
    let tag : tag_at q i ≡ c.from.result + 65536 * c.quarter_at.result + 4294967296 * (c.quarter_at-2.result + 65536 * c.quarter_at-3.result) = rw (first, second, third, fourth) (omega arith) in
    sym (ap (λ (v : Listed Receipt). slice_get v.list i) c.self.view_is)
    ∙ receipt_at l.pages.items q i below
    ∙ ap (λ (n : ℕ). Some (record { page = n; tag = tag_at q i })) (sym page)
    ∙ ap (λ (n : ℕ). Some (record { page = c.index-2.result.now; tag = n })) tag
