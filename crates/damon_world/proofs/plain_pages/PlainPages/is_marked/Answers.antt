use Rattle.std.proofs.Common.{◌≡◌, ◌-◌, ◌<◌, true, false, length, ap, sym, ◌∙◌, arith}
use Rattle.std.specs.Prelude.{if◌then◌else◌}
use Rattle.std.proofs.lemmas.Bool.Decides.{nat_tests}
use Rattle.page_bits.specs.Bits.{bit_in}
use Rattle.page_bits.specs.Runs.{in_run}
use Rattle.sampler.specs.Loaded.{mark_of}
use Rattle.damon_world.specs.Pages.{PagesView}
use Rattle.damon_world.proofs.Parts.{length_marks, mark_is, no_bits}
use Rattle.damon_world.proofs.plain_pages.PlainPages.is_marked.Goals as goal
use Rattle.damon_world.proofs.plain_pages.PlainPages.is_marked.Goals.{else-self-page-via-then-self-page+else-page-self, else-self-page-via-else-self-page}

pub is_bit_set-requires : goal.is_bit_set-requires
is_bit_set-requires c =
    let p = c.self.inside in
    let some : 0 < length p.marks.items = grind (arith, nat_tests, c.is_empty.ensures, c.if-not-is_empty.true) in
    omega (arith, c.requires, ap (λ (v : PagesView). length v.marks) c.self.view_is, length_marks p.pages p.marks.items p.swept.from p.swept.to, c.self.invariant.bits.written some, ap length c.deref.ensures.value)

pub returns-then-page-self : goal.returns-then-page-self
returns-then-page-self c =
    let p = c.self.inside in
    let from = p.swept.from in
    let to = p.swept.to in
    let page = c.args.page in
    let here : page < p.pages = omega (arith, c.requires, ap (λ (v : PagesView). length v.marks) c.self.view_is, length_marks p.pages p.marks.items from to) in
    let swept : in_run from (to - from) page ≡ true = grind (arith, nat_tests, c.if-self-page.true, c.if-page-self.true) in
    sym (sym (ap (λ (v : PagesView). mark_of v.marks page) c.self.view_is)
    ∙ mark_is p.pages p.marks.items from to page here
    ∙ ap (λ b. if b then true else bit_in p.marks.items page) swept)

pub returns-then-not-is_empty : goal.returns-then-not-is_empty
returns-then-not-is_empty c =
    let p = c.self.inside in
    let from = p.swept.from in
    let to = p.swept.to in
    let page = c.args.page in
    let here : page < p.pages = omega (arith, c.requires, ap (λ (v : PagesView). length v.marks) c.self.view_is, length_marks p.pages p.marks.items from to) in
    let outside : in_run from (to - from) page ≡ false = elim c.else-self-page.branch [
      | else-self-page-via-then-self-page+else-page-self w ↦ grind (arith, nat_tests, w.if-self-page.true, w.if-page-self.false, c.self.invariant.order)
      | else-self-page-via-else-self-page w ↦ grind (arith, nat_tests, w.if-self-page.false)
    ] in
    c.is_bit_set.ensures
    ∙ ap (λ ws. bit_in ws page) c.deref.ensures.value
    ∙ sym (sym (ap (λ (v : PagesView). mark_of v.marks page) c.self.view_is)
    ∙ mark_is p.pages p.marks.items from to page here
    ∙ ap (λ b. if b then true else bit_in p.marks.items page) outside)

pub returns-else-not-is_empty : goal.returns-else-not-is_empty
returns-else-not-is_empty c =
    let p = c.self.inside in
    let from = p.swept.from in
    let to = p.swept.to in
    let page = c.args.page in
    let here : page < p.pages = omega (arith, c.requires, ap (λ (v : PagesView). length v.marks) c.self.view_is, length_marks p.pages p.marks.items from to) in
    let outside : in_run from (to - from) page ≡ false = elim c.else-self-page.branch [
      | else-self-page-via-then-self-page+else-page-self w ↦ grind (arith, nat_tests, w.if-self-page.true, w.if-page-self.false, c.self.invariant.order)
      | else-self-page-via-else-self-page w ↦ grind (arith, nat_tests, w.if-self-page.false)
    ] in
    let none : length p.marks.items ≡ 0 = grind (arith, nat_tests, c.is_empty.ensures, c.if-not-is_empty.false) in
    rw (c.if-not-is_empty.false)
    (sym (sym (ap (λ (v : PagesView). mark_of v.marks page) c.self.view_is)
    ∙ mark_is p.pages p.marks.items from to page here
    ∙ ap (λ b. if b then true else bit_in p.marks.items page) outside
    ∙ no_bits p.marks.items page none))
