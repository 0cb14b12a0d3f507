use Rattle.script_lines.proofs.LinesBack.{lines_read_back}
use Rattle.script_lines.proofs.laws.spelled_lines_are_read.Goals as goal

pub returns : goal.returns
returns c = record { lines = lines_read_back }
