use Rattle.std.proofs.Common.{◌≡◌, ◌≤◌, refl, sym, ap, subst, ◌∙◌, arith}
use Rattle.damon_types.specs.Space.{pages_of}
use Rattle.damon_core.specs.Makes.{Makes}
use Rattle.damon_world.specs.Stands.{StandsFor}
use Rattle.damon_world.specs.Touches.{touches}
use Rattle.script_run.specs.Calls.{Follows}
use Rattle.script_run.specs.Part.{part_value}
use Rattle.script_run.specs.Part as part
use Rattle.script_run.specs.Kept.{IsPartWithin}
use Rattle.script_run.specs.Played.{with_later}
use Rattle.script_run.specs.Player.{left_of}
use Rattle.script_run.proofs.Making.{somewhere-then}
use Rattle.script_run.proofs.Moves.{touches_made, touches_play}
use Rattle.script_run.proofs.Next.{player-made}
use Rattle.script_run.proofs.player.Player.touch.Goals as goal

pub make_touches-requires : goal.make_touches-requires
make_touches-requires g c =
    let is : part_value c.self.inside.part ≡ part.Touches c.args.page c.args.count = ap (λ v. v.part) c.self.view_is ∙ c.requires.part in
    subst (IsPartWithin (pages_of c.self.inside.world.monitor.core.space)) is c.self.invariant.within.0

pub after_touches-requires : goal.after_touches-requires
after_touches-requires g c =
    let there = c.self.invariant.somewhere in
    let s = there.course.moment.state in
    (there.course.memory, s, there.reached, there.here.callbacks, (c.make_touches.ensures.events s there.reached there.here.world.state).0)

pub invariant_of-self : goal.invariant_of-self
invariant_of-self g c =
    let stream = g.R.Rng.stream in
    let stands = g.C.Callbacks.stands_for in
    let p = c.self.inside in
    let q = part_value p.part in
    let one : 1 ≤ left_of q = subst (λ x. 1 ≤ left_of x) (sym (ap (λ v. v.part) c.self.view_is ∙ c.requires.part)) (omega (arith, c.requires.some)) in
    let world = c.make_touches.new.world in
    let callbacks = c.after_touches.new.self in
    let k = g.C.Callbacks.callbacks in
    let plays = touches_play stream k stands g.met.C.Callbacks.in_place p.world world p.callbacks callbacks c.args.page c.args.count c.make_touches.ensures.source c.make_touches.ensures.events c.after_touches.ensures in
    let there = somewhere-then stream k stands p.world world p.callbacks callbacks (λ r. touches c.args.page c.args.count) plays c.self.invariant.somewhere in
    player-made stream stands p.world world p.callbacks callbacks q _ one there (ap (λ v. v.core.space) c.make_touches.ensures.monitor) (ap (λ v. v.core.ticks) c.make_touches.ensures.monitor) c.self.invariant

pub returns-clause-on : goal.returns-clause-on
returns-clause-on g c text =
    let is = c.self.view_is in
    let stands = g.C.Callbacks.stands_for in
    record {
      later = ap (λ v. v.later) is;
      on = λ l. touches_made g.R.Rng.stream g.C.Callbacks.callbacks stands g.met.C.Callbacks.in_place (with_later c.args.self.now l) _ text c.args.page c.args.count c.requires.part refl
          refl (ap (λ v. v.form) is) (c.make_touches.ensures.source ∙ ap (λ v. v.world.source) is)
          (subst (λ w. Makes StandsFor w c.make_touches.new.world (touches c.args.page c.args.count)) (ap (λ v. v.world) is) c.make_touches.ensures.events)
          (subst (λ k. Follows stands k c.after_touches.new.self (touches c.args.page c.args.count)) (ap (λ v. v.callbacks) is) c.after_touches.ensures);
    }
