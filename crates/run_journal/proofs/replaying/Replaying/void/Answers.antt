use Rattle.std.proofs.Common.{◌+◌, [], refl, sym, ap, ◌∙◌, subst}
use Rattle.damon_core.specs.State.{Core}
use Rattle.damon_core.specs.Stands.{last_pass}
use Rattle.run_journal.specs.declared.entry.Entry.TheVariants.{Void}
use Rattle.run_journal.specs.Replaying.{Carries, ReplayingView}
use Rattle.run_journal.proofs.Carrying.{carries_void, pass_ended}
use Rattle.run_journal.proofs.replaying.Replaying.void.Goals as goal

pub returns : goal.returns
returns c =
    let s = c.self.inside in
    let old : ReplayingView = record { monitor = s.monitor; words = s.words; drawn = s.drawn } in
    let new : ReplayingView = record { monitor = c.observe.new.self; words = s.words; drawn = s.drawn } in
    let void = ap (λ (r : ReplayingView). r.monitor.core.phase) c.self.view_is ∙ c.requires.void in
    record {
      entry = subst (λ (o : ReplayingView). Carries o new (Void (o.monitor.core.ticks + 1)) []) c.self.view_is (carries_void old new c.observe.ensures.event refl refl void);
      ticks = ap (λ (d : Core). d.ticks) c.observe.ensures.core ∙ ap (λ (r : ReplayingView). r.monitor.core.ticks + 1) c.self.view_is;
      drawn = ap (λ (r : ReplayingView). r.drawn) c.self.view_is;
      space = ap (λ (d : Core). d.space) c.observe.ensures.core ∙ ap (λ (r : ReplayingView). r.monitor.core.space) c.self.view_is;
      ended = ap (λ (d : Core). last_pass d.phase d.ticks) c.observe.ensures.core ∙ (pass_ended _ _ _ ∙ sym (ap (λ (d : Core). d.ticks) c.observe.ensures.core));
    }
