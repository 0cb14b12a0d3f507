use Rattle.damon_core.proofs.Stepping.{begins, takes_its_steps, waits}
use Rattle.damon_core.proofs.laws.a_pass_takes_its_steps_amid_events.Goals as goal

pub returns : goal.returns
returns c = record { waits = waits; begins = begins; pass = takes_its_steps c.reached_states_are_bound.ensures.in_phase }
