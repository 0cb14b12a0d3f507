use Rattle.std.proofs.Common.{◌+◌, ◌<◌, ◌∷◌, [], length, drop, refl, sym, ap, ◌∙◌, subst, arith}
use Rattle.script_lines.specs.Command.{lent_value}
use Rattle.damon_core.specs.Event.{commit}
use Rattle.live_commit.specs.Commit.{commit_value}
use Rattle.snapshot_print.specs.Forms.{writing_of}
use Rattle.script_run.specs.Kept.{IsMade}
use Rattle.script_run.specs.Part.{Part, part_value}
use Rattle.script_run.specs.Part as part
use Rattle.script_run.specs.Played.{with_later}
use Rattle.script_run.specs.Player.{left_in}
use Rattle.script_run.specs.Parts.{parts_of}
use Rattle.script_run.proofs.Commands.{is_left}
use Rattle.script_run.proofs.Next.{less_left, next_part, player-made, player-next}
use Rattle.script_run.proofs.Moves.{OnOk-map, commit_made, next_begins}
use Rattle.script_run.proofs.player.Player.start.Goals as goal

pub overflow_add-self : goal.overflow_add-self
overflow_add-self g c =
    let p = c.self.inside in
    let here : p.begun < length p.commands.list = is_left p.cap p.begun p.commands.list c.args.self.now.later (sym (ap (λ v. v.later) c.self.view_is)) c.requires.some in
    omega (arith, here, c.len-commands.ensures)

pub invariant_of-self : goal.invariant_of-self
invariant_of-self g c =
    let p = c.self.inside in
    let here : p.begun < length p.commands.list = is_left p.cap p.begun p.commands.list c.args.self.now.later (sym (ap (λ v. v.later) c.self.view_is)) c.requires.some in
    player-next g.R.Rng.stream g.C.Callbacks.stands_for p.world p.callbacks (part_value p.part) (part_value c.in-Part.part) p.cap p.begun p.commands.list (lent_value c.get.result) here c.get.ensures c.in-Part.ensures c.self.invariant

pub invariant_of-self-in-Commit : goal.invariant_of-self-in-Commit
invariant_of-self-in-Commit g c =
    let p = c.self.inside in
    let here : p.begun < length p.commands.list = is_left p.cap p.begun p.commands.list c.args.self.now.later (sym (ap (λ v. v.later) c.self.view_is)) c.requires.some in
    let q = part.Commit (commit_value c.in-Commit.commit.now) in
    let new = parts_of p.cap (drop (p.begun + 1) p.commands.list) in
    player-made g.R.Rng.stream g.C.Callbacks.stands_for p.world c.make_commit.new.world p.callbacks c.make_commit.new.callbacks q new (omega arith) c.make_commit.ensures.somewhere c.make_commit.ensures.space c.make_commit.ensures.ticks
    (player-next g.R.Rng.stream g.C.Callbacks.stands_for p.world p.callbacks (part_value p.part) q p.cap p.begun p.commands.list (lent_value c.get.result) here c.get.ensures c.in-Commit.ensures c.self.invariant)

pub returns-in-Part-clause-on : goal.returns-in-Part-clause-on
returns-in-Part-clause-on g c =
    let p = c.self.inside in
    let is = c.self.view_is in
    let q = part_value c.in-Part.part in
    let here : p.begun < length p.commands.list = is_left p.cap p.begun p.commands.list c.args.self.now.later (sym (ap (λ v. v.later) c.self.view_is)) c.requires.some in
    record {
      next = q;
      first = sym (ap (λ v. v.later) is) ∙ next_part p.cap p.begun p.commands.list (lent_value c.get.result) q here c.get.ensures c.in-Part.ensures;
      on = λ l. next_begins g.R.Rng.stream g.C.Callbacks.callbacks g.C.Callbacks.stands_for (with_later c.args.self.now (q ∷ l)) _ c.args.out.now.items c.requires.done (ap (λ v. v.world) is) (ap (λ v. v.callbacks) is) (ap (λ v. v.form) is) refl;
    }

pub returns-in-Part-clause-less : goal.returns-in-Part-clause-less
returns-in-Part-clause-less g c =
    let p = c.self.inside in
    let here : p.begun < length p.commands.list = is_left p.cap p.begun p.commands.list c.args.self.now.later (sym (ap (λ v. v.later) c.self.view_is)) c.requires.some in
    let later = sym (ap (λ v. v.later) c.self.view_is) ∙ next_part p.cap p.begun p.commands.list (lent_value c.get.result) (part_value c.in-Part.part) here c.get.ensures c.in-Part.ensures in
    omega (arith, less_left c.args.self.now.part c.args.self.now.later, ap left_in later)

pub returns-in-Commit-clause-on : goal.returns-in-Commit-clause-on
returns-in-Commit-clause-on g c =
    let p = c.self.inside in
    let is = c.self.view_is in
    let k = commit_value c.in-Commit.commit.now in
    let q = part.Commit k in
    let new = c.make_commit.new.world in
    let here : p.begun < length p.commands.list = is_left p.cap p.begun p.commands.list c.args.self.now.later (sym (ap (λ v. v.later) c.self.view_is)) c.requires.some in
    let cb = g.C.Callbacks.callbacks in
    let stands = g.C.Callbacks.stands_for in
    OnOk-map c.make_commit.result
    (λ made. record {
      next = q;
      first = sym (ap (λ v. v.later) is) ∙ next_part p.cap p.begun p.commands.list (lent_value c.get.result) q here c.get.ensures c.in-Commit.ensures;
      on = λ l. commit_made g.R.Rng.stream cb stands (with_later c.args.self.now (q ∷ l)) _ c.args.out.now.items _ k c.requires.done refl refl (ap (λ v. v.form) is)
          (subst (λ v. IsMade g.R.Rng.stream cb stands v.world new v.callbacks c.make_commit.new.callbacks (writing_of v.form) c.args.out.now.items c.make_commit.new.out.items (λ r. commit k ∷ [])) is made);
    })
    c.make_commit.ensures.made

pub returns-in-Commit-clause-less : goal.returns-in-Commit-clause-less
returns-in-Commit-clause-less g c =
    let p = c.self.inside in
    let q = part.Commit (commit_value c.in-Commit.commit.now) in
    let new = parts_of p.cap (drop (p.begun + 1) p.commands.list) in
    let here : p.begun < length p.commands.list = is_left p.cap p.begun p.commands.list c.args.self.now.later (sym (ap (λ v. v.later) c.self.view_is)) c.requires.some in
    let later = sym (ap (λ v. v.later) c.self.view_is) ∙ next_part p.cap p.begun p.commands.list (lent_value c.get.result) q here c.get.ensures c.in-Commit.ensures in
    let less : left_in (part.Touches 0 0 ∷ new) < left_in (c.args.self.now.part ∷ c.args.self.now.later) = omega (arith, less_left c.args.self.now.part c.args.self.now.later, ap left_in later, less_left q new, less_left (part.Touches 0 0) new) in
    OnOk-map c.make_commit.result (λ made. less) c.make_commit.ensures.made
