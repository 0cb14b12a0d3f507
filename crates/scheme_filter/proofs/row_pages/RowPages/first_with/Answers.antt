use Rattle.std.proofs.Common.{◌≡◌, Bool, true, false, not, refl, sym, ap, ◌∙◌, subst, arith}
use mathlib.Core.Bool.{beq}
use Rattle.scheme_filter.specs.Passes.{answer}
use Rattle.scheme_filter.specs.RowPages.{changes}
use Rattle.scheme_filter.proofs.ChangeLemmas.{Searched, first_after-above, searched_on}
use Rattle.scheme_filter.proofs.row_pages.RowPages.first_with.Goals as goal

differs : (a b : Bool) → not (beq a b) ≡ true → a ≡ not b
differs true true unequal = absurd (cc)
differs true false unequal = refl
differs false true unequal = refl
differs false false unequal = absurd (cc)

pub pages-smaller : goal.pages-smaller
pages-smaller c = omega (arith, c.next_change-page.ensures, first_after-above c.pages.page c.args.self.now.end (changes c.args.self.now c.args.filters.now) c.pages-test.true, c.pages-test.true)

pub pages-preserved : goal.pages-preserved
pages-preserved c =
    let answer_is = c.answer.ensures ∙ ap (λ place. answer c.args.filters.now place c.args.self.now.class) c.place_at.ensures in
    let other = sym answer_is ∙ differs c.answer.result c.args.wanted c.if-answer-wanted.true in
    subst (λ page. Searched c.args.filters.now c.args.self.now c.args.wanted c.args.from page) (sym c.next_change-page.ensures)
    (searched_on c.args.filters.now c.args.self.now c.args.wanted c.args.from c.pages.page c.requires.start c.pages-test.true other c.pages.invariant)
