use Rattle.snapshot_print.proofs.OneLine.{text_is_one_line}
use Rattle.snapshot_print.proofs.laws.json_lines_are_one_line.Goals as goal

pub returns : goal.returns
returns c = text_is_one_line
