use Rattle.std.proofs.Common.{rules, ◌≤◌, length, ◌∙◌}
use Rattle.damon_live.proofs.Resting.{all_asked, asked_more}
use Rattle.damon_live.proofs.rest.make_calls.Goals as goal

pub loop-controller-preserved : goal.loop-controller-preserved
loop-controller-preserved g c =
    let i = c.loop-controller.invariant in
    let made = c.make_calls_of.ensures in
    (made.idle, made.made ∙ i.1, asked_more g.N.Named.script c.loop-controller.kept c.make_calls_of.new.kept c.loop-controller.controller i.2 made.more made.all)

pub returns-clause-all : goal.returns-clause-all
returns-clause-all g c =
    let past : length g.N.Named.script.controllers ≤ c.loop-controller.controller = search rules in
    all_asked g.N.Named.script c.loop-controller.kept c.loop-controller.controller past c.loop-controller.invariant.2
