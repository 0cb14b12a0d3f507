use Rattle.std.proofs.Common.{refl}
use Rattle.live_commit.specs.SetupView.{value_of}
use Rattle.damon_core.specs.Event.{touch}
use Rattle.damon_core.specs.After.{after}
use Rattle.damon_core.specs.State.{State, opening}
use Rattle.damon_world.specs.Moment.{Moment, stepped_times}
use Rattle.monitor_tests.proofs.world.touched_and_stepped.Goals as goal

pub returns : goal.returns
returns c =
    let law = c.states_of_worlds_are_bound.ensures in
    let s = opening (value_of c.args.setup.now) in
    let at_first = c.in_ok-world.ensures.reached in
    let touched = c.touch_page.ensures.event s (law.reached s at_first) c.in_ok-world.ensures.opening in
    let t : State = after s (touch 1) in
    let after_touch = law.touches s 1 1 at_first touched.0 in
    let m : Moment = record { state = t; stream = _ } in
    let stepped = c.step.ensures.plays m (law.reached t after_touch) (record { state = touched.1; words = refl }) in
    let last = law.steps m 1 after_touch stepped.0 in
    ((stepped_times 1 m).state, stepped.1.state, law.bound (stepped_times 1 m).state last)
