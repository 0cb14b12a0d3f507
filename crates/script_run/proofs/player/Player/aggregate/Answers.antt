use Rattle.std.proofs.Common.{◌≡◌, ◌∷◌, [], false, refl, ap, subst, ◌∙◌, arith}
use Rattle.damon_world.specs.Moment.{next_event}
use Rattle.snapshot_print.specs.Forms.{writing_of}
use Rattle.script_run.specs.Kept.{IsMade}
use Rattle.script_run.specs.Part.{part_value}
use Rattle.script_run.specs.Parts.{is_done}
use Rattle.script_run.specs.Played.{with_later}
use Rattle.script_run.proofs.Moves.{OnOk-map, aggregate_made, some_steps}
use Rattle.script_run.proofs.Next.{player-stepped}
use Rattle.script_run.proofs.player.Player.aggregate.Goals as goal

pub invariant_of-self : goal.invariant_of-self
invariant_of-self g c =
    let p = c.self.inside in
    let made = c.make_aggregation in
    let some = some_steps c.args.until c.args.most c.args.self.now.world.monitor.core.phase (subst (λ q. is_done q c.args.self.now.world.monitor.core.phase ≡ false) c.requires.part c.requires.some) in
    player-stepped g.R.Rng.stream g.C.Callbacks.stands_for p.world made.new.world p.callbacks made.new.callbacks (part_value p.part) c.args.until c.args.most 1 _
    (ap (λ v. v.part) c.self.view_is ∙ c.requires.part) (omega arith) some made.ensures.somewhere made.ensures.space made.ensures.passes c.self.invariant

pub returns-clause-on : goal.returns-clause-on
returns-clause-on g c =
    let stream = g.R.Rng.stream in
    let stands = g.C.Callbacks.stands_for in
    let k = g.C.Callbacks.callbacks in
    let is = c.self.view_is in
    let made = c.make_aggregation in
    let some = some_steps c.args.until c.args.most c.args.self.now.world.monitor.core.phase (subst (λ q. is_done q c.args.self.now.world.monitor.core.phase ≡ false) c.requires.part c.requires.some) in
    OnOk-map made.result
    (λ all. record {
      later = ap (λ v. v.later) is;
      on = λ l. aggregate_made stream k stands (with_later c.args.self.now l) _ _ _ c.args.until c.args.most c.requires.part refl refl (ap (λ v. v.form) is) some c.requires.some
          (subst (λ v. IsMade stream k stands v.world made.new.world v.callbacks made.new.callbacks (writing_of v.form) c.args.out.now.items made.new.out.items (λ r. next_event r.moment.state r.moment.stream ∷ [])) is all);
    })
    made.ensures.made
