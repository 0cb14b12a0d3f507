use Rattle.std.proofs.Common.{◌<◌, ◌≤◌, length, sym, ap, ◌∙◌, arith}
use Rattle.std.proofs.lemmas.List.{drop_all}
use Rattle.script_run.specs.Parts.{parts_of}
use Rattle.script_run.proofs.Commands.{goes_on_begun, some_left}
use Rattle.script_run.proofs.Moves.{is_over, on-none}
use Rattle.script_run.proofs.player.Player.begin_next.Goals as goal

pub returns-then-self-len-clause-on : goal.returns-then-self-len-clause-on
returns-then-self-len-clause-on g c = on-none g.R.Rng.stream g.C.Callbacks.callbacks g.C.Callbacks.stands_for c.args.self.now c.args.out.now.items

pub returns-then-self-len-clause-end : goal.returns-then-self-len-clause-end
returns-then-self-len-clause-end g c false =
    let p = c.self.inside in
    let over : length p.commands.list ≤ p.begun = omega (arith, c.if-self-len.true, c.len.ensures) in
    let none = ap (parts_of p.cap) (drop_all p.begun p.commands.list over) in
    is_over g.R.Rng.stream g.C.Callbacks.callbacks g.C.Callbacks.stands_for c.args.self.now (sym (ap (λ v. v.later) c.self.view_is) ∙ none) c.requires

pub start-requires-clause-some : goal.start-requires-clause-some
start-requires-clause-some g c =
    let p = c.self.inside in
    let here : p.begun < length p.commands.list = omega (arith, c.if-self-len.false, c.len.ensures) in
    some_left p.cap p.begun p.commands.list c.args.self.now.later (sym (ap (λ v. v.later) c.self.view_is)) here

pub returns-clause-on : goal.returns-clause-on
returns-clause-on g c =
    goes_on_begun g.R.Rng.stream g.C.Callbacks.callbacks g.C.Callbacks.stands_for c.args.self.now c.start.new.self c.args.out.now.items c.start.new.out.items c.in_ok-start.ensures.on
