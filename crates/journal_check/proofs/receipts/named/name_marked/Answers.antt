use Rattle.std.proofs.Common.{◌≡◌, ◌<◌, ◌+◌, ◌||◌, ℕ, Bool, List, false, length, get_or, sym, ap, subst, ◌∙◌, arith}
use Rattle.std.specs.Prelude.{slice_set}
use Rattle.run_journal.specs.declared.entry.Receipt.{Receipt}
use Rattle.journal_check.specs.TagChains.{IsNextOf}
use Rattle.journal_check.proofs.AheadTables.{NamesSo, names_first, names_next}
use Rattle.journal_check.proofs.TagChains.{some_receipt}
use Rattle.journal_check.proofs.receipts.named.name_marked.Goals as goal

pub receipts-init : goal.receipts-init
receipts-init c = record { so = names_first c.args.pass c.args.seen.now c.args.marked.now c.args.named.now c.first-index.result c.first-index.ensures; own = c.first-index.ensures.own }

pub has-requires-in-receipts : goal.has-requires-in-receipts
has-requires-in-receipts c =
    let x = c.get.result in
    let inside : c.receipts.index < length c.args.seen.now = omega (arith, c.receipts-test.true, c.len.ensures, c.receipts.invariant.so.len, c.requires.count) in
    let page : x.1.page ≡ (get_or c.args.seen.now c.receipts.index x).1.page = ap (λ (y : ℕ × Receipt). y.1.page) (c.get.ensures x) in
    omega (arith, page, c.requires.below c.receipts.index x inside)

pub next-index-requires-clause-early : goal.next-index-requires-clause-early
next-index-requires-clause-early c = λ d.
    let inside : c.receipts.index < length c.args.seen.now = omega (arith, c.receipts-test.true, c.len.ensures, c.receipts.invariant.so.len, c.requires.count) in
    omega (arith, c.receipts.invariant.own d inside, c.requires.early)

pub receipts-preserved : goal.receipts-preserved
receipts-preserved c =
    let xs = c.args.seen.now in
    let k = c.receipts.index in
    let marked = c.args.marked.now in
    let named = c.receipts.named in
    let hit = c.has-in-receipts.result in
    let to = c.next-index.result in
    let own = c.receipts.invariant.own in
    let inside : k < length xs = omega (arith, c.receipts-test.true, c.len.ensures, c.receipts.invariant.so.len, c.requires.count) in
    let on : IsNextOf c.args.pass xs (k + 1) to = subst (λ t. IsNextOf t xs (k + 1) to) (own some_receipt inside) (c.next-index.ensures some_receipt) in
    let put : c.put.new.self ≡ slice_set named k (get_or named k false || hit) = c.put.ensures ∙ ap (λ (b : Bool). slice_set named k (b || hit)) c.has.ensures in
    record {
      so = subst (λ (now : List Bool). NamesSo c.args.pass xs marked c.args.named.now now to) (sym put)
          (names_next c.args.pass xs marked c.args.named.now named k to hit (omega (arith, c.receipts-test.true, c.len.ensures)) (λ d. c.has-in-receipts.ensures ∙ ap (λ (y : ℕ × Receipt). get_or marked y.1.page false) (c.get.ensures d)) (λ d. own d inside) on c.receipts.invariant.so);
      own = on.own;
    }

pub receipts-smaller : goal.receipts-smaller
receipts-smaller c = let next = c.next-index.ensures some_receipt in omega (arith, next.later, c.receipts-test.true, c.len.ensures, c.receipts.invariant.so.len, c.requires.count)

pub returns-clause-each : goal.returns-clause-each
returns-clause-each c = λ i d below. c.receipts.invariant.so.done i d below (omega (arith, below, c.receipts-test.false, c.len.ensures, c.receipts.invariant.so.len, c.requires.count))
