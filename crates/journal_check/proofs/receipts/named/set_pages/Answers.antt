use Rattle.std.proofs.Common.{◌≡◌, ◌<◌, ◌≤◌, ◌+◌, ℕ, Bool, List, false, length, drop, get_or, refl, sym, ap, subst, ◌∙◌, arith}
use Rattle.std.proofs.lemmas.List.{drop_all}
use Rattle.std.specs.Prelude.{if◌then◌else◌, slice_set}
use Rattle.run_journal.specs.declared.entry.Receipt.{Receipt}
use Rattle.journal_check.specs.Ahead.{is_picked}
use Rattle.journal_check.specs.TagChains.{IsNextOf}
use Rattle.journal_check.proofs.AheadTables.{SetsLeft, sets_next}
use Rattle.journal_check.proofs.TagChains.{page_with, pages_at, pages_on, pages_with, some_receipt}
use Rattle.journal_check.proofs.receipts.named.set_pages.Goals as goal

pub receipts-init : goal.receipts-init
receipts-init c = record {
  sets = record {
    each = λ page below. ap (λ l. if is_picked l page then c.args.value else get_or c.args.table.now page false) (sym (pages_on c.args.tag c.args.seen.now 0 c.first-index.result c.first-index.ensures));
    len = refl;
  };
  own = c.first-index.ensures.own;
}

pub put-requires : goal.put-requires
put-requires c =
    let x = c.get.result in
    let inside : c.receipts.index < length c.args.seen.now = omega (arith, c.receipts-test.true, c.len.ensures) in
    let page : x.1.page ≡ (get_or c.args.seen.now c.receipts.index x).1.page = ap (λ (y : ℕ × Receipt). y.1.page) (c.get.ensures x) in
    omega (arith, page, c.requires.below c.receipts.index x inside, c.receipts.invariant.sets.len)

pub next-index-requires-clause-early : goal.next-index-requires-clause-early
next-index-requires-clause-early c = λ d.
    let inside : c.receipts.index < length c.args.seen.now = omega (arith, c.receipts-test.true, c.len.ensures) in
    omega (arith, c.receipts.invariant.own d inside, c.requires.early)

pub receipts-preserved : goal.receipts-preserved
receipts-preserved c =
    let xs = c.args.seen.now in
    let tag = c.args.tag in
    let v = c.args.value in
    let before = c.args.table.now in
    let now = c.receipts.table in
    let k = c.receipts.index in
    let x = c.get.result in
    let to = c.next-index.result in
    let pages = pages_with tag xs in
    let inside : k < length xs = omega (arith, c.receipts-test.true, c.len.ensures) in
    let is : x ≡ get_or xs k x = c.get.ensures x in
    let own : x.1.tag ≡ tag = ap (λ (y : ℕ × Receipt). y.1.tag) is ∙ c.receipts.invariant.own x inside in
    let on : IsNextOf tag xs (k + 1) to = subst (λ t. IsNextOf t xs (k + 1) to) (c.receipts.invariant.own x inside) (c.next-index.ensures x) in
    let page : x.1.page ≡ (get_or xs k x).1.page = ap (λ (y : ℕ × Receipt). y.1.page) is in
    let within : x.1.page < length now = omega (arith, page, c.requires.below k x inside, c.receipts.invariant.sets.len) in
    let sets = sets_next pages v before now x.1.page (pages_with tag (drop (k + 1) xs)) within (subst (SetsLeft pages v before now) (pages_at tag xs k x inside is own) c.receipts.invariant.sets) in
    record {
      sets = subst (λ (t : List Bool). SetsLeft pages v before t (pages_with tag (drop to xs))) (sym c.put.ensures) (subst (SetsLeft pages v before (slice_set now x.1.page v)) (pages_on tag xs (k + 1) to on) sets);
      own = on.own;
    }

pub receipts-smaller : goal.receipts-smaller
receipts-smaller c = let next = c.next-index.ensures some_receipt in omega (arith, next.later, c.receipts-test.true, c.len.ensures)

pub returns-clause-each : goal.returns-clause-each
returns-clause-each c = λ page below.
    let xs = c.args.seen.now in
    let over : length xs ≤ c.receipts.index = omega (arith, c.receipts-test.false, c.len.ensures) in
    ap (λ l. if is_picked (pages_with c.args.tag l) page then c.args.value else get_or c.receipts.table page false) (sym (drop_all c.receipts.index xs over))
    ∙ (c.receipts.invariant.sets.each page below ∙ ap (λ b. if b then c.args.value else get_or c.args.table.now page false) (page_with page c.args.tag xs))
