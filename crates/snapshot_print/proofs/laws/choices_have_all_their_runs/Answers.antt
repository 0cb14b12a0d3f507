use Rattle.snapshot_print.proofs.BySlot.{served_by_slot}
use Rattle.snapshot_print.proofs.laws.choices_have_all_their_runs.Goals as goal

pub returns : goal.returns
returns c slot aggr tick space regions slots shown = (served_by_slot slot aggr tick space regions slots).text space shown
