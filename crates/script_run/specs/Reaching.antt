-- Where the arming and the finishing of a pass lead.
use Rattle.std.specs.Prelude.{◌≡◌}
use Rattle.live_commit.specs.declared.phase.Phase.{Phase}
use Rattle.live_commit.specs.declared.phase.Phase.TheVariants.{Idle, Armed}
use Rattle.damon_core.specs.Reached.{Reached}
use Rattle.damon_world.specs.Moment.{Moment, along}
use Rattle.script_lines.specs.Command.{CommandValue, Arm, Finish}
use Rattle.script_run.specs.Going.{plain}
use Rattle.script_run.specs.Unfold.{command_events}

-- the events of a command lead from a moment to a phase
abbrev pub LeadsTo : Moment → CommandValue → Phase → Type 0
LeadsTo m command phase = (along m (command_events plain m.state.core.regions.cap m command)).state.core.phase ≡ phase

-- from each reached moment `arm` leads to where each pick is cleared, and `finish` to where no pass is under way and no
-- aggregation is due
pub record ReachTheirPhase : Type 0 where
  pub arm : (m : Moment) → Reached m.state → LeadsTo m Arm Armed
  pub finish : (m : Moment) → Reached m.state → LeadsTo m Finish Idle
