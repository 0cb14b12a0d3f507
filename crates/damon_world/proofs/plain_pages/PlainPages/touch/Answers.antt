use Rattle.std.proofs.Common.{◌≡◌, ℕ, ◌-◌, ◌<◌, true, List, length, ap, sym, subst, ◌∙◌, arith}
use Rattle.std.specs.Prelude.{◌==◌, if◌then◌else◌}
use Rattle.std.specs.Vec.{with_items}
use Rattle.std.proofs.lemmas.List.{with_items_is}
use Rattle.page_bits.specs.Bits.{bit_in}
use Rattle.page_bits.specs.Runs.{in_run}
use Rattle.damon_world.specs.Pages.{AreTouched, PagesView, is_marked}
use Rattle.damon_world.proofs.Parts.{are_touched, length_marks, one_page, stored, swap}
use Rattle.damon_world.proofs.plain_pages.PlainPages.touch.Goals as goal

pub set_bit-requires : goal.set_bit-requires
set_bit-requires c =
    let p = c.self.inside in
    let here : c.args.page < p.pages = omega (arith, c.requires, ap (λ (v : PagesView). length v.marks) c.self.view_is, length_marks p.pages p.marks.items p.swept.from p.swept.to) in
    omega (arith, here, c.write_marks.ensures.each, ap length c.deref_mut.ensures.value)

pub returns : goal.returns
returns c =
    let p = c.self.inside in
    let page = c.args.page in
    let from = p.swept.from in
    let to = p.swept.to in
    let words = c.set_bit.new.words in
    let written = c.write_marks.new.marks in
    let same = c.deref_mut.ensures.value in
    let all = with_items_is written words (omega (arith, c.set_bit.ensures.len, ap length same)) in
    let bits : (q : ℕ) → bit_in words q ≡ (if in_run page 1 q then true else bit_in p.marks.items q) = λ q.
    (c.set_bit.ensures.bits q
    ∙ ap (λ (ws : List ℕ). if page == q then true else bit_in ws q) same
    ∙ ap (λ b. if page == q then true else b) (c.write_marks.ensures.same q)
    ∙ ap (λ b. if b then true else bit_in p.marks.items q) (one_page page q)) in
    let each : (q : ℕ) → is_marked words from to q ≡ (if in_run page 1 q then true else is_marked p.marks.items from to q) = λ q.
    (ap (λ b. if in_run from (to - from) q then true else b) (bits q) ∙ swap (in_run from (to - from) q) (in_run page 1 q) (bit_in p.marks.items q)) in
    subst (λ old. AreTouched page 1 old (stored p.pages (with_items written words).items from to p.tags.items)) c.self.view_is
    (subst (λ (ws : List ℕ). AreTouched page 1 (stored p.pages p.marks.items from to p.tags.items) (stored p.pages ws from to p.tags.items)) (sym all)
    (are_touched p.pages page 1 p.marks.items words p.tags.items from to from to each))
