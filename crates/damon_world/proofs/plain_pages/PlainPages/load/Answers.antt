use Rattle.std.proofs.Common.{◌≡◌, ℕ, Bool, List, ap, subst, ◌∙◌}
use Rattle.page_bits.specs.Bits.{bit_in}
use Rattle.page_bits.specs.Sets.{bits_of}
use Rattle.sampler.specs.Loaded.{next_picks}
use Rattle.damon_core.specs.Event.{load_index}
use Rattle.damon_core.specs.Makes.{Makes}
use Rattle.damon_core.specs.Several.{loads}
use Rattle.damon_core.specs.Stands.{Stands}
use Rattle.damon_world.specs.declared.plain_pages.Swept.{Swept}
use Rattle.damon_world.specs.Pages.{PagesView, is_marked}
use Rattle.damon_world.proofs.Parts.{bits_are, marks_same, none_swept, stored}
use Rattle.damon_world.proofs.plain_pages.PlainPages.load.Goals as goal

pub returns-clause-same : goal.returns-clause-same
returns-clause-same c =
    let p = c.self.inside in
    let from = p.swept.from in
    let to = p.swept.to in
    let words = c.settle.new.marks.items in
    let marked : (q : ℕ) → is_marked words 0 0 q ≡ is_marked p.marks.items from to q = λ q. (none_swept words q ∙ c.settle.ensures.bits q) in
    ap (λ (w : Swept). stored p.pages words w.from w.to p.tags.items) c.settle.ensures.none
    ∙ ap (λ (ms : List Bool). record { marks = ms; tags = p.tags.items }) (marks_same p.pages words p.marks.items 0 0 from to marked)
    ∙ c.self.view_is

pub returns-clause-events : goal.returns-clause-events
returns-clause-events c =
    let p = c.self.inside in
    let from = p.swept.from in
    let to = p.swept.to in
    let m = c.args.monitor.now in
    let words = c.settle.new.marks.items in
    let marked : (q : ℕ) → bit_in words q ≡ is_marked p.marks.items from to q = c.settle.ensures.bits in
    let marks : bits_of p.pages c.deref.result.now ≡ c.args.self.now.marks =
    ap (λ (ws : List ℕ). bits_of p.pages ws) c.deref.ensures.value ∙ bits_are p.pages words p.marks.items from to marked ∙ ap (λ (v : PagesView). v.marks) c.self.view_is in
    subst (λ bs. Makes Stands m c.loaded_next.new.self (loads bs (next_picks m.core.picks (load_index m.core.phase) c.args.count))) marks c.loaded_next.ensures.events
