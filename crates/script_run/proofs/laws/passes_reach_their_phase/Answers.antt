use Rattle.script_run.proofs.Phases.{reach_their_phase}
use Rattle.script_run.proofs.laws.passes_reach_their_phase.Goals as goal

pub returns : goal.returns
returns c = reach_their_phase c.reached_states_are_bound.ensures.in_phase
