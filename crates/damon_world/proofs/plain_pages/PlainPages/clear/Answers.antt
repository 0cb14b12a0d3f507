use Rattle.std.proofs.Common.{◌≡◌, ℕ, ◌-◌, ◌<◌, false, List, length, refl, ap, sym, subst, ◌∙◌, arith}
use Rattle.std.specs.Prelude.{slice_index, if◌then◌else◌}
use Rattle.std.specs.Vec.{with_items}
use Rattle.std.proofs.lemmas.Bool.Decides.{nat_tests}
use Rattle.std.proofs.lemmas.List.{with_items_is}
use Rattle.page_bits.specs.Bits.{bit_in}
use Rattle.damon_world.specs.declared.plain_pages.Swept.{Swept}
use Rattle.damon_world.specs.Pages.{AreCleared, PagesView, is_marked, is_picked}
use Rattle.damon_world.proofs.Parts.{are_cleared, length_marks, stored}
use Rattle.damon_world.proofs.plain_pages.PlainPages.clear.Goals as goal

pub clear_marks-requires : goal.clear_marks-requires
clear_marks-requires c =
    let p = c.self.inside in
    record {
      order = c.requires.order;
      within = c.requires.within;
      pages = λ k below.
          (let here : slice_index c.args.picks.now.pages k < p.pages = omega (arith, c.requires.pages k below, ap (λ (v : PagesView). length v.marks) c.self.view_is, length_marks p.pages p.marks.items p.swept.from p.swept.to) in
          omega (arith, here, c.settle.ensures.each, ap length c.deref_mut.ensures.value));
    }

pub put_tags-requires-clause-pages : goal.put_tags-requires-clause-pages
put_tags-requires-clause-pages c k below =
    let p = c.self.inside in
    let here : slice_index c.args.picks.now.pages k < p.pages = omega (arith, c.requires.pages k below, ap (λ (v : PagesView). length v.marks) c.self.view_is, length_marks p.pages p.marks.items p.swept.from p.swept.to) in
    let some : 0 < length p.tags.items = grind (arith, nat_tests, c.is_empty.ensures, c.if-not-is_empty.true) in
    omega (arith, here, c.self.invariant.tagged some, ap length c.deref_mut-then-not-is_empty.ensures.value)

pub returns-then-not-is_empty : goal.returns-then-not-is_empty
returns-then-not-is_empty c =
    let p = c.self.inside in
    let picks = c.args.picks.now.pages in
    let start = c.args.from in
    let n = c.args.to - start in
    let pass = c.args.pass in
    let from = p.swept.from in
    let to = p.swept.to in
    let settled = c.settle.new.marks in
    let words = c.clear_marks.new.marks in
    let tags = c.put_tags.new.tags in
    let same = c.deref_mut-then-not-is_empty.ensures.value in
    let bits : (q : ℕ) → bit_in words q ≡ (if is_picked picks start n q then false else is_marked p.marks.items from to q) = λ q.
    (c.clear_marks.ensures.bits q
    ∙ ap (λ (ws : List ℕ). if is_picked picks start n q then false else bit_in ws q) c.deref_mut.ensures.value
    ∙ ap (λ b. if is_picked picks start n q then false else b) (c.settle.ensures.bits q)) in
    let all = with_items_is settled words (omega (arith, c.clear_marks.ensures.len, ap length c.deref_mut.ensures.value)) in
    let all_tags = with_items_is p.tags tags (omega (arith, c.put_tags.ensures.len, ap length same)) in
    let at : (q : ℕ) → q < length p.tags.items → slice_index tags q ≡ (if is_picked picks start n q then pass else slice_index p.tags.items q) = λ q below.
    (c.put_tags.ensures.tags q (omega (arith, below, ap length same)) ∙ ap (λ (ts : List ℕ). if is_picked picks start n q then pass else slice_index ts q) same) in
    let old = stored p.pages p.marks.items from to p.tags.items in
    let left = c.settle.new.swept in
    subst (λ v. AreCleared picks start n pass v (stored p.pages (with_items settled words).items left.from left.to (with_items p.tags tags).items)) c.self.view_is
    (subst (λ (ws : List ℕ). AreCleared picks start n pass old (stored p.pages ws left.from left.to (with_items p.tags tags).items)) (sym all)
    (subst (λ (w : Swept). AreCleared picks start n pass old (stored p.pages words w.from w.to (with_items p.tags tags).items)) (sym c.settle.ensures.none)
    (subst (λ (ts : List ℕ). AreCleared picks start n pass old (stored p.pages words 0 0 ts)) (sym all_tags)
    (are_cleared picks start n pass p.pages p.marks.items words p.tags.items tags from to bits (c.put_tags.ensures.len ∙ ap length same) at))))

pub returns-else-not-is_empty : goal.returns-else-not-is_empty
returns-else-not-is_empty c =
    let p = c.self.inside in
    let picks = c.args.picks.now.pages in
    let start = c.args.from in
    let n = c.args.to - start in
    let pass = c.args.pass in
    let from = p.swept.from in
    let to = p.swept.to in
    let settled = c.settle.new.marks in
    let words = c.clear_marks.new.marks in
    let bits : (q : ℕ) → bit_in words q ≡ (if is_picked picks start n q then false else is_marked p.marks.items from to q) = λ q.
    (c.clear_marks.ensures.bits q
    ∙ ap (λ (ws : List ℕ). if is_picked picks start n q then false else bit_in ws q) c.deref_mut.ensures.value
    ∙ ap (λ b. if is_picked picks start n q then false else b) (c.settle.ensures.bits q)) in
    let all = with_items_is settled words (omega (arith, c.clear_marks.ensures.len, ap length c.deref_mut.ensures.value)) in
    let none : length p.tags.items ≡ 0 = grind (arith, nat_tests, c.is_empty.ensures, c.if-not-is_empty.false) in
    let old = stored p.pages p.marks.items from to p.tags.items in
    let left = c.settle.new.swept in
    subst (λ v. AreCleared picks start n pass v (stored p.pages (with_items settled words).items left.from left.to p.tags.items)) c.self.view_is
    (subst (λ (ws : List ℕ). AreCleared picks start n pass old (stored p.pages ws left.from left.to p.tags.items)) (sym all)
    (subst (λ (w : Swept). AreCleared picks start n pass old (stored p.pages words w.from w.to p.tags.items)) (sym c.settle.ensures.none)
    (are_cleared picks start n pass p.pages p.marks.items words p.tags.items p.tags.items from to bits refl (λ q below. absurd (omega (arith, below, none))))))
