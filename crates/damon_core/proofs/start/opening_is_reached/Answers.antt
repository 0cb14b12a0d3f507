use Rattle.std.proofs.Common.{[], refl}
use Rattle.live_commit.specs.SetupView.{value_of}
use Rattle.damon_core.proofs.start.opening_is_reached.Goals as goal

pub returns : goal.returns
returns c = record {
  setup = value_of c.args.setup.now;
  events = [];
  can_open = record { space = c.targets-targets.ensures.sound; sound = c.args.setup.now.sound; order = c.len-ranges.ensures.order };
  fit = tt;
  by_hit = tt;
  is = refl;
}
