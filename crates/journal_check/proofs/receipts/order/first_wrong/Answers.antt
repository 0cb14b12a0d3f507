use Rattle.std.proofs.Common.{◌≡◌, ◌<◌, ◌&&◌, ◌∙◌, ℕ, Bool, true, false, length, get_or, rules, sym, ap, subst, map, arith}
use Rattle.run_journal.specs.declared.entry.Receipt.{Receipt}
use Rattle.journal_check.specs.Ahead.{KeepsLast, last_in, may_follow}
use Rattle.journal_text.specs.SeenLine.{with_receipt}
use Rattle.journal_check.proofs.LastSeen.{left_first, left_more, wrong_here}
use Rattle.journal_check.proofs.receipts.order.first_wrong.Goals as goal

pub loop-index-init : goal.loop-index-init
loop-index-init c = record {
  left = left_first c.args.named.now c.args.receipts.now _ _ c.in_ok-last.ensures.last;
  len = c.in_ok-last.ensures.len;
}

pub admit-admitted-requires-clause-inside : goal.admit-admitted-requires-clause-inside
admit-admitted-requires-clause-inside c =
    let x = c.get-worker.result in
    let below : c.loop-index.index < length c.args.receipts.now = search rules in
    let page : x.1.page ≡ (get_or c.args.receipts.now c.loop-index.index x).1.page = ap (λ (y : ℕ × Receipt). y.1.page) (c.get-worker.ensures x) in
    omega (arith, page, c.requires.within c.loop-index.index x below, c.loop-index.invariant.len)

pub admit-admitted-requires-clause-early : goal.admit-admitted-requires-clause-early
admit-admitted-requires-clause-early c = λ named.
    let x = c.get-worker.result in
    let below : c.loop-index.index < length c.args.receipts.now = search rules in
    let tag : x.1.tag ≡ (get_or c.args.receipts.now c.loop-index.index x).1.tag = ap (λ (y : ℕ × Receipt). y.1.tag) (c.get-worker.ensures x) in
    omega (arith, tag, c.requires.early c.loop-index.index x below (sym c.has-is_named.ensures ∙ named))

pub returns-then-not-admitted : goal.returns-then-not-admitted
returns-then-not-admitted c =
    let left = c.loop-index.invariant.left in
    let named = c.args.named.now in
    let x = c.get-worker.result in
    let k = c.loop-index.index in
    let below : k < length c.args.receipts.now = search rules in
    let within : k < length named = omega (arith, below, c.requires.count) in
    let is : c.admit-admitted.result ≡ false = search rules in
    wrong_here named c.args.receipts.now _ _ k x left below within
    (subst (λ (y : ℕ × Receipt). (get_or named k false && may_follow left.all y.0 y.1) ≡ false) (c.get-worker.ensures x) (ap (λ (b : Bool). b && may_follow left.all x.0 x.1) (sym c.has-is_named.ensures) ∙ (sym (c.admit-admitted.ensures.may left.all left.keeps) ∙ is)))

pub loop-index-preserved : goal.loop-index-preserved
loop-index-preserved c =
    let left = c.loop-index.invariant.left in
    let named = c.args.named.now in
    let x = c.get-worker.result in
    let k = c.loop-index.index in
    let below : k < length c.args.receipts.now = search rules in
    let within : k < length named = omega (arith, below, c.requires.count) in
    let is : c.admit-admitted.result ≡ true = search rules in
    record {
      left = left_more named c.args.receipts.now _ _ _ _ k x left below within
          (subst (λ (y : ℕ × Receipt). (get_or named k false && may_follow left.all y.0 y.1) ≡ true) (c.get-worker.ensures x) (ap (λ (b : Bool). b && may_follow left.all x.0 x.1) (sym c.has-is_named.ensures) ∙ (sym (c.admit-admitted.ensures.may left.all left.keeps) ∙ is)))
          (subst (λ (y : ℕ × Receipt). KeepsLast (with_receipt left.all y.0 y.1) c.admit-admitted.new.self.workers (map last_in c.admit-admitted.new.self.pages.items)) (c.get-worker.ensures x) (c.admit-admitted.ensures.next left.all left.keeps is));
      len = c.admit-admitted.ensures.len ∙ c.loop-index.invariant.len;
    }
