use Rattle.std.proofs.Common.{ℕ, ◌<◌, ◌++◌, ◌∷◌, [], refl, sym, ap, ◌∙◌, arith}
use Rattle.run_journal.specs.Lawful.{touches_of}
use Rattle.damon_live.specs.Whole.{pages_touched}
use Rattle.page_words.proofs.Lemmas.{take_next}
use Rattle.damon_live.proofs.Working.{all_found, found_below}
use Rattle.damon_live.proofs.work.touch_all.Goals as goal

pub loop-index-init : goal.loop-index-init
loop-index-init g c = (refl, refl, c.requires.fresh ∙ sym (ap touches_of c.requires.empty), ap pages_touched c.requires.empty, omega (arith, c.requires.room))

pub touch_page-requires-clause-page : goal.touch_page-requires-clause-page
touch_page-requires-clause-page g c = all_found (λ p. p < c.args.shared.now.words.now.words) c.args.trace.now.list c.loop-index.index c.get.result.now c.requires.pages c.get.ensures

pub touch_page-requires-clause-room : goal.touch_page-requires-clause-room
touch_page-requires-clause-room g c = omega (arith, c.loop-index.invariant.4, found_below c.args.trace.now.list c.loop-index.index c.get.result.now c.get.ensures)

pub loop-index-preserved : goal.loop-index-preserved
loop-index-preserved g c =
    let i = c.loop-index.invariant in
    let t = c.touch_page.ensures in
    let trace = c.args.trace.now.list in
    let page : ℕ = c.get.result.now in
    let index : ℕ = c.loop-index.index in
    let below = found_below trace index page c.get.ensures in
    (t.table ∙ i.0, t.worker ∙ i.1, t.touches, t.page ∙ (ap (λ l. l ++ page ∷ []) i.3 ∙ sym (take_next trace index page c.get.ensures)), omega (arith, t.room, i.4, below))
