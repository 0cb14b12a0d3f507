use Rattle.script_run.proofs.Fits.{bound_along, choices_along}
use Rattle.script_run.proofs.laws.each_run_with_callbacks_is_bound.Goals as goal

pub returns : goal.returns
returns c = record {
  bound = bound_along c.reached_states_are_bound.ensures.in_phase c.reached_states_are_bound.ensures.bound;
  choices = choices_along c.reached_states_are_bound.ensures.in_phase c.reached_states_are_bound.ensures.choices;
}
