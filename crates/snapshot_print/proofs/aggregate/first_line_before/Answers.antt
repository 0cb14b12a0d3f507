use Rattle.std.proofs.Common.{append_assoc}
use Rattle.snapshot_print.proofs.aggregate.first_line_before.Goals as goal

pub returns-clause-written : goal.returns-clause-written
returns-clause-written c =
    rw (c.field_before.ensures.written, c.field_before-threshold.ensures.written, c.field_before-rows.ensures.written, c.text_before-line_end.ensures.written, c.from.ensures, c.count.ensures) (simp append_assoc)
