use Rattle.snapshot_print.proofs.Readable.{aggregate_is_read, answer_is_read, end_is_read, show_is_read}
use Rattle.snapshot_print.proofs.laws.json_lines_are_read.Goals as goal

pub returns : goal.returns
returns c = record { show = show_is_read; aggregate = aggregate_is_read; commit = answer_is_read; end = end_is_read }
