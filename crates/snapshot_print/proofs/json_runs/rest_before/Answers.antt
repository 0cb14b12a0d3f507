use Rattle.std.proofs.Common.{drop, sym}
use Rattle.snapshot_print.proofs.JsonMembers.{run_rest_joined}
use Rattle.snapshot_print.proofs.json_runs.rest_before.Goals as goal

pub returns-clause-written : goal.returns-clause-written
returns-clause-written c =
    rw (c.address_before.ensures.written, c.short_field_before-score.ensures.written, c.short_field_before-slot.ensures.written, c.start_before-first.ensures.written, c.addresses-from.ensures.first, c.addresses-from.ensures.after, c.of_applied.ensures.start, c.of_applied.ensures.pages, c.from.ensures)
    (sym (run_rest_joined c.args.space.now c.args.run.now (drop c.args.end c.args.bytes.now)))
