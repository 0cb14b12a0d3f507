use Rattle.std.proofs.Common.{drop, sym}
use Rattle.snapshot_print.proofs.JsonMembers.{row_item}
use Rattle.snapshot_print.proofs.json_rows.row_before.Goals as goal

pub returns-clause-written : goal.returns-clause-written
returns-clause-written c =
    rw (c.short_field_before.ensures.written, c.short_field_before-count.ensures.written, c.address_field_before-after.ensures.written, c.short_field_before-last.ensures.written, c.start_before-first.ensures.written, c.addresses-from.ensures.first, c.addresses-from.ensures.after, c.of_row.ensures.start, c.of_row.ensures.pages)
    (sym (row_item c.args.space.now c.args.row.now (drop c.args.end c.args.bytes.now)))
