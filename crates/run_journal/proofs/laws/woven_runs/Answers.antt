use Rattle.run_journal.proofs.Weaving.{PassLaws}
use Rattle.run_journal.proofs.WovenRuns.{weaves}
use Rattle.run_journal.proofs.laws.woven_runs.Goals as goal

pub returns : goal.returns
returns c =
    let laws : PassLaws = record { bound = c.reached_states_are_bound.ensures.bound; in_phase = c.reached_states_are_bound.ensures.in_phase; picks = c.reached_states_are_bound.ensures.picks } in
    weaves laws
