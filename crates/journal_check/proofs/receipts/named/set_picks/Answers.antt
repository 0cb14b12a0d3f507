use Rattle.std.proofs.Common.{◌≡◌, ◌+◌, ◌<◌, ◌∷◌, Bool, List, length, drop, get_or, sym, ap, subst, ◌∙◌, arith}
use Rattle.std.proofs.lemmas.List.{drop_more}
use Rattle.journal_check.proofs.AheadTables.{SetsLeft, got, sets_next}
use Rattle.journal_check.proofs.receipts.named.set_picks.Goals as goal

pub loop-pick-preserved : goal.loop-pick-preserved
loop-pick-preserved c =
    let pages = c.args.picks.now.pages in
    let v = c.args.value in
    let k = c.loop-pick.pick in
    let p = c.page.result in
    let before = c.args.table.now in
    let table = c.loop-pick.table in
    let here : get_or pages k p ≡ p = got pages k p p c.page.ensures in
    let inside : k < length pages = omega (arith, c.loop-pick-test.true, c.len-pick-end.ensures.len) in
    let within : p < length table = omega (arith, here, c.requires k p inside, c.loop-pick.invariant.len) in
    let first = drop_more pages k p inside ∙ ap (λ q. q ∷ drop (k + 1) pages) here in
    subst (λ (t : List Bool). SetsLeft pages v before t (drop (k + 1) pages)) (sym c.put.ensures) (sets_next pages v before table p (drop (k + 1) pages) within (subst (SetsLeft pages v before table) first c.loop-pick.invariant))
