use Rattle.std.proofs.Common.{◌≡◌, ap, ◌∙◌, subst}
use Rattle.std.specs.Mem.Slots.{slots_items}
use lib.ListN.{get_elem?}
use mathlib.Core.Option.{some}
use Rattle.page_words.specs.declared.view.View.TheVariants.{Monitor}
use Rattle.page_words.specs.Rule.{Agree}
use Rattle.page_words.specs.Views.{Told, GatheredTagsRise}
use Rattle.page_words.specs.Seats.{entries_of}
use Rattle.page_words.proofs.Seating.{settles}
use Rattle.page_words.proofs.words.PageWords.settle.Goals as goal

pub returns-clause-agree : goal.returns-clause-agree
returns-clause-agree c =
    let last = c.close_with.ensures.values.2 in
    let entries = entries_of c.seat.inside.seat.me.0 in
    let none : c.seat.inside.out ≡ 0 = ap (λ v. v.out) c.seat.view_is ∙ c.requires.out in
    let at : get_elem? last.0.views c.seat.inside.seat.id ≡ some (Monitor (entries_of c.seat.inside.seat.me.0) 0) = last.1.1 ∙ ap (λ m. some m.0) c.seat.invariant.0 ∙ ap (λ n. some (Monitor (entries_of c.seat.inside.seat.me.0) n)) none in
    let known = settles _ _ entries last.0 last.1.0 at in
    let same : entries_of c.seat.inside.seat.me.0 ≡ c.args.seat.entries = ap (λ v. v.entries) c.seat.view_is in
    subst (λ es. Agree (slots_items c.close_with.result.words) es (Told es)) same (subst (λ ws. Agree ws (entries_of c.seat.inside.seat.me.0) (Told (entries_of c.seat.inside.seat.me.0))) last.2 known.0)

pub returns-clause-tags : goal.returns-clause-tags
returns-clause-tags c =
    let last = c.close_with.ensures.values.2 in
    let none : c.seat.inside.out ≡ 0 = ap (λ v. v.out) c.seat.view_is ∙ c.requires.out in
    let at : get_elem? last.0.views c.seat.inside.seat.id ≡ some (Monitor (entries_of c.seat.inside.seat.me.0) 0) = last.1.1 ∙ ap (λ m. some m.0) c.seat.invariant.0 ∙ ap (λ n. some (Monitor (entries_of c.seat.inside.seat.me.0) n)) none in
    subst GatheredTagsRise (ap (λ v. v.entries) c.seat.view_is) (settles _ _ (entries_of c.seat.inside.seat.me.0) last.0 last.1.0 at).1
