use Rattle.snapshot_print.proofs.JsonRuns.{first_runs}
use Rattle.snapshot_print.proofs.json_runs.print_run_items.Goals as goal

pub print_own_items-requires-clause-own : goal.print_own_items-requires-clause-own
print_own_items-requires-clause-own c =
    rw (c.split_at.ensures.front, c.count_runs.ensures.count) (first_runs c.in-Some.run'.now.slot c.slots.left.now)
