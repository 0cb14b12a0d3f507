use Rattle.std.proofs.Common.{◌≡◌, ℕ, ◌-◌, ◌≤◌, true, length, ap, subst, ◌∙◌, arith}
use Rattle.std.specs.Prelude.{min, if◌then◌else◌}
use Rattle.page_bits.specs.Bits.{bit_in}
use Rattle.page_bits.specs.Runs.{in_run}
use Rattle.damon_world.specs.Pages.{AreTouched, PagesView, is_marked}
use Rattle.damon_world.proofs.Parts.{are_touched, length_marks, one_run, stored}
use Rattle.damon_world.proofs.plain_pages.PlainPages.sweep.Goals as goal

pub invariant_of-self : goal.invariant_of-self
invariant_of-self c =
    let p = c.self.inside in
    let pages = length_marks p.pages p.marks.items p.swept.from p.swept.to in
    record {
      bits = c.self.invariant.bits;
      order = omega (arith, c.min.ensures, c.max.ensures, c.self.invariant.order, c.requires.order);
      within = omega (arith, c.max.ensures, c.self.invariant.within, c.requires.within, pages, ap (λ (v : PagesView). length v.marks) c.self.view_is);
      tagged = c.self.invariant.tagged;
    }

pub returns-then-from-last : goal.returns-then-from-last
returns-then-from-last c =
    let p = c.self.inside in
    let from = c.args.from in
    let to = c.args.to in
    let n = to - from in
    let first = p.swept.from in
    let last = p.swept.to in
    let words = p.marks.items in
    let low = c.min.result in
    let high = c.max.result in
    let left : first ≤ to = omega (arith, c.if-first-to.true) in
    let right : from ≤ last = omega (arith, c.if-from-last.true) in
    let each : (q : ℕ) → is_marked words low high q ≡ (if in_run from n q then true else is_marked words first last q) = λ q.
    (ap (λ (k : ℕ). if in_run k (high - k) q then true else bit_in words q) c.min.ensures
    ∙ ap (λ (k : ℕ). if in_run (min first from) (k - min first from) q then true else bit_in words q) c.max.ensures
    ∙ one_run from to first last q (bit_in words q) c.self.invariant.order c.requires.order left right) in
    subst (λ old. AreTouched from n old (stored p.pages words low high p.tags.items)) c.self.view_is (are_touched p.pages from n words words p.tags.items first last low high each)

pub invariant_of-self-2 : goal.invariant_of-self-2
invariant_of-self-2 c =
    let p = c.self.inside in
    let pages = length_marks p.pages p.marks.items p.swept.from p.swept.to in
    record {
      bits = record { room = c.settle.ensures.room; written = λ some. c.settle.ensures.each };
      order = c.requires.order;
      within = omega (arith, c.requires.within, pages, ap (λ (v : PagesView). length v.marks) c.self.view_is);
      tagged = c.self.invariant.tagged;
    }

pub returns : goal.returns
returns c =
    let p = c.self.inside in
    let from = c.args.from in
    let to = c.args.to in
    let n = to - from in
    let first = p.swept.from in
    let last = p.swept.to in
    let words = c.settle.new.marks.items in
    let each : (q : ℕ) → is_marked words from to q ≡ (if in_run from n q then true else is_marked p.marks.items first last q) = λ q.
    ap (λ b. if in_run from n q then true else b) (c.settle.ensures.bits q) in
    subst (λ old. AreTouched from n old (stored p.pages words from to p.tags.items)) c.self.view_is
    (are_touched p.pages from n p.marks.items words p.tags.items first last from to each)
