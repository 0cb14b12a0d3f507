use Rattle.std.proofs.Common.{◌≡◌, ℕ, ◌+◌, ◌≤◌, ◌*◌, ◌<◌, ◌^◌, [], ◌∷◌, ap, sym, ◌∙◌, subst, arith, rules}
use Rattle.damon_types.specs.declared.attrs.Attrs.{Attrs}
use Rattle.sampler.specs.Draws.{drawn, drawn_rest}
use Rattle.damon_core.specs.Event.{aggregate as aggregate_event}
use Rattle.damon_core.specs.Makes.{Makes}
use Rattle.damon_core.specs.State.{Core}
use Rattle.damon_core.specs.Stands.{Stands}
use Rattle.run_journal.specs.declared.entry.Entry.TheVariants.{Aggregate}
use Rattle.run_journal.specs.Replaying.{Carries, ReplayingView}
use Rattle.sampler.specs.Seeds.{words_from}
use Rattle.run_journal.proofs.Carrying.{carries_aggregate}
use Rattle.run_journal.proofs.replaying.Replaying.aggregate.Goals as goal

pub returns : goal.returns
returns c =
    let s = c.self.inside in
    let m = s.monitor in
    let old : ReplayingView = record { monitor = s.monitor; words = s.words; drawn = s.drawn } in
    let more : ℕ = s.drawn + 2 * c.from.result in
    let new : ReplayingView = record { monitor = c.aggregate.new.self; words = c.draw_words.new.source; drawn = more } in
    let n : ℕ = 2 * m.core.attrs.max in
    let same : c.attrs-max.result.max ≡ m.core.attrs.max = ap (λ (a : Attrs). a.max) c.attrs-max.ensures.attrs in
    let due = ap (λ (r : ReplayingView). r.monitor.core.phase) c.self.view_is ∙ c.requires.due in
    let words : c.deref.result.now ≡ drawn n (words_from s.words) = c.deref.ensures.value ∙ (c.draw_words.ensures.words ∙ ap (λ k. drawn (2 * k) (words_from s.words)) same) in
    let made = subst (λ ws. Makes Stands m c.aggregate.new.self (aggregate_event ws ∷ [])) words c.aggregate.ensures.event in
    let rest = c.draw_words.ensures.rest ∙ ap (λ k. drawn_rest (2 * k) (words_from s.words)) same in
    let sum : more ≡ s.drawn + n = ap (λ k. s.drawn + 2 * k) (c.from.ensures ∙ same) in
    let few : more ≤ s.drawn + 2 ^ 33 = (let w = c.from.ensures in let f : c.from.result < 2 ^ 32 = search rules in omega (arith, w, f)) in
    let was : c.args.self.now.drawn ≡ s.drawn = sym (ap (λ (r : ReplayingView). r.drawn) c.self.view_is) in
    record {
      entry = subst (λ (o : ReplayingView). Carries o new (Aggregate o.monitor.core.ticks o.drawn) []) c.self.view_is (carries_aggregate old new made sum rest due);
      ticks = ap (λ (d : Core). d.ticks) c.aggregate.ensures.core ∙ ap (λ (r : ReplayingView). r.monitor.core.ticks) c.self.view_is;
      drawn = omega (arith, was, few);
      space = ap (λ (d : Core). d.space) c.aggregate.ensures.core ∙ ap (λ (r : ReplayingView). r.monitor.core.space) c.self.view_is;
      phase = ap (λ (d : Core). d.phase) c.aggregate.ensures.core;
    }
