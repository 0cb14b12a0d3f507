use Rattle.std.proofs.Common.{◌+◌, ◌<◌, length, drop, refl, sym, ap, subst, ◌∙◌, arith}
use Rattle.script_lines.specs.Command.{lent_value}
use Rattle.damon_core.specs.Makes.{Makes}
use Rattle.damon_world.specs.Stands.{StandsFor}
use Rattle.damon_world.specs.Touches.{touches}
use Rattle.script_run.specs.Calls.{Follows}
use Rattle.script_run.specs.Part.{part_value}
use Rattle.script_run.specs.Part as part
use Rattle.script_run.specs.Parts.{part_of, parts_of}
use Rattle.script_run.specs.Player.{left_in}
use Rattle.script_run.proofs.Making.{somewhere-then}
use Rattle.script_run.proofs.Moves.{on-none, touch_made, touches_play}
use Rattle.script_run.proofs.Next.{less_left, next_part, player-made, player-next}
use Rattle.script_run.proofs.player.Player.touch_next.Goals as goal

pub returns-then-self-len-clause-on : goal.returns-then-self-len-clause-on
returns-then-self-len-clause-on g c text = on-none g.R.Rng.stream g.C.Callbacks.callbacks g.C.Callbacks.stands_for c.args.self.now text

pub returns-in_default-clause-on : goal.returns-in_default-clause-on
returns-in_default-clause-on g c text = on-none g.R.Rng.stream g.C.Callbacks.callbacks g.C.Callbacks.stands_for c.args.self.now text

pub touch_page-requires : goal.touch_page-requires
touch_page-requires g c =
    let p = c.self.inside in
    let here : p.begun < length p.commands.list = omega (arith, c.if-self-len.false, c.len.ensures) in
    let value = sym (ap (part_of p.cap) c.in-Some.ensures) in
    let kept = player-next g.R.Rng.stream g.C.Callbacks.stands_for p.world p.callbacks (part_value p.part) (part.Touches c.in-Some.page 1) p.cap p.begun p.commands.list (lent_value c.get.result) here c.get.ensures value c.self.invariant in
    omega (arith, kept.within.0)

pub after_touches-requires : goal.after_touches-requires
after_touches-requires g c =
    let there = c.self.invariant.somewhere in
    let s = there.course.moment.state in
    (there.course.memory, s, there.reached, there.here.callbacks, (c.touch_page.ensures.event s there.reached there.here.world.state).0)

pub invariant_of-self : goal.invariant_of-self
invariant_of-self g c =
    let p = c.self.inside in
    let here : p.begun < length p.commands.list = omega (arith, c.if-self-len.false, c.len.ensures) in
    let value = sym (ap (part_of p.cap) c.in-Some.ensures) in
    let q = part.Touches c.in-Some.page 1 in
    let new = parts_of p.cap (drop (p.begun + 1) p.commands.list) in
    let kept = player-next g.R.Rng.stream g.C.Callbacks.stands_for p.world p.callbacks (part_value p.part) q p.cap p.begun p.commands.list (lent_value c.get.result) here c.get.ensures value c.self.invariant in
    let world = c.touch_page.new.self in
    let callbacks = c.after_touches.new.self in
    let k = g.C.Callbacks.callbacks in
    let plays = touches_play g.R.Rng.stream k g.C.Callbacks.stands_for g.met.C.Callbacks.in_place p.world world p.callbacks callbacks c.in-Some.page 1 c.touch_page.ensures.source c.touch_page.ensures.event c.after_touches.ensures in
    let there = somewhere-then g.R.Rng.stream k g.C.Callbacks.stands_for p.world world p.callbacks callbacks (λ r. touches c.in-Some.page 1) plays c.self.invariant.somewhere in
    player-made g.R.Rng.stream g.C.Callbacks.stands_for p.world world p.callbacks callbacks q new (omega arith) there (ap (λ m. m.core.space) c.touch_page.ensures.monitor) (ap (λ m. m.core.ticks) c.touch_page.ensures.monitor) kept

pub returns-clause-on : goal.returns-clause-on
returns-clause-on g c text =
    let p = c.self.inside in
    let is = c.self.view_is in
    let page = c.in-Some.page in
    let here : p.begun < length p.commands.list = omega (arith, c.if-self-len.false, c.len.ensures) in
    let value = sym (ap (part_of p.cap) c.in-Some.ensures) in
    touch_made g.R.Rng.stream g.C.Callbacks.callbacks g.C.Callbacks.stands_for g.met.C.Callbacks.in_place c.args.self.now _ text page c.requires
    (sym (ap (λ v. v.later) is) ∙ next_part p.cap p.begun p.commands.list (lent_value c.get.result) (part.Touches page 1) here c.get.ensures value)
    refl (ap (λ v. v.form) is) (c.touch_page.ensures.source ∙ ap (λ v. v.world.source) is)
    (subst (λ w. Makes StandsFor w c.touch_page.new.self (touches page 1)) (ap (λ v. v.world) is) c.touch_page.ensures.event)
    (subst (λ k. Follows g.C.Callbacks.stands_for k c.after_touches.new.self (touches page 1)) (ap (λ v. v.callbacks) is) c.after_touches.ensures)

pub returns-clause-less : goal.returns-clause-less
returns-clause-less g c true =
    let p = c.self.inside in
    let q = part.Touches c.in-Some.page 1 in
    let new = parts_of p.cap (drop (p.begun + 1) p.commands.list) in
    let here : p.begun < length p.commands.list = omega (arith, c.if-self-len.false, c.len.ensures) in
    let value = sym (ap (part_of p.cap) c.in-Some.ensures) in
    let later = sym (ap (λ v. v.later) c.self.view_is) ∙ next_part p.cap p.begun p.commands.list (lent_value c.get.result) q here c.get.ensures value in
    omega (arith, less_left c.args.self.now.part c.args.self.now.later, ap left_in later, less_left q new, less_left (part.Touches 0 0) new)
