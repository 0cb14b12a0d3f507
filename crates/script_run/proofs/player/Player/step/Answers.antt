use Rattle.std.proofs.Common.{◌≡◌, List, refl, sym, ap, subst, ◌∙◌, arith}
use Rattle.std.specs.List.{AllByRecursion}
use Rattle.live_commit.specs.declared.phase.Phase.TheVariants.{Due}
use Rattle.damon_core.specs.Event.{Event}
use Rattle.damon_core.specs.Reached.{Reached}
use Rattle.damon_world.specs.Advance.{AreAmid}
use Rattle.damon_world.specs.Moment.{Moment, events_of_steps}
use Rattle.damon_world.specs.Plays.{Plays}
use Rattle.damon_world.specs.Stands.{StandsAt}
use Rattle.script_run.specs.Callbacks.{IsStep}
use Rattle.script_run.specs.Calls.{Follows}
use Rattle.script_run.specs.Part.{part_value}
use Rattle.script_run.specs.Played.{with_later}
use Rattle.script_run.proofs.Making.{somewhere-then}
use Rattle.script_run.proofs.Moves.{steps_made, steps_play}
use Rattle.script_run.proofs.Next.{player-stepped}
use Rattle.script_run.proofs.player.Player.step.Goals as goal

pub invariant_of-self : goal.invariant_of-self
invariant_of-self g c =
    let stream = g.R.Rng.stream in
    let stands = g.C.Callbacks.stands_for in
    let p = c.self.inside in
    let is = c.self.view_is in
    let n = c.advance-made.result in
    let world = c.advance-made.new.self in
    let callbacks = c.after_steps.new.self in
    let early : p.world.monitor.core.phase ≡ Due → ⊥ = λ due. c.requires.between (ap (λ v. v.world.monitor.core.phase) (sym is) ∙ due) in
    let k = g.C.Callbacks.callbacks in
    let plays = steps_play stream k stands g.met.C.Callbacks.in_place p.world world p.callbacks callbacks n early c.advance-made.ensures.plays c.advance-made.ensures.amid c.after_steps.ensures in
    let there = somewhere-then stream k stands p.world world p.callbacks callbacks (λ r. events_of_steps n r.moment) plays c.self.invariant.somewhere in
    player-stepped stream stands p.world world p.callbacks callbacks (part_value p.part) c.args.until c.args.most n _ (ap (λ v. v.part) is ∙ c.requires.part)
    c.advance-made.ensures.some (omega (arith, c.advance-made.ensures.count)) there c.advance-made.ensures.space c.advance-made.ensures.passes c.self.invariant

pub returns-clause-on : goal.returns-clause-on
returns-clause-on g c text =
    let stream = g.R.Rng.stream in
    let stands = g.C.Callbacks.stands_for in
    let is = c.self.view_is in
    let n = c.advance-made.result in
    record {
      later = ap (λ v. v.later) is;
      on = λ l. steps_made stream g.C.Callbacks.callbacks stands g.met.C.Callbacks.in_place (with_later c.args.self.now l) _ text c.args.until c.args.most n c.requires.part refl
          refl (ap (λ v. v.form) is) (omega (arith, c.advance-made.ensures.count)) c.requires.some c.requires.between
          (subst (λ w. Plays stream w c.advance-made.new.self (λ m. events_of_steps n m)) (ap (λ v. v.world) is) c.advance-made.ensures.plays)
          (subst (λ w. (m : Moment) → Reached m.state → StandsAt stream w m → AreAmid n m) (ap (λ v. v.world) is) c.advance-made.ensures.amid)
          (subst (λ k. (steps : List Event) → AllByRecursion IsStep steps → Follows stands k c.after_steps.new.self steps) (ap (λ v. v.callbacks) is) c.after_steps.ensures);
    }
