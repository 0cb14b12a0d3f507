use Rattle.script_lines.proofs.Lemmas.{size_left_less}
use Rattle.journal_check.proofs.receipts.read.after_receipts.Goals as goal

pub lines-smaller : goal.lines-smaller
lines-smaller c = size_left_less c.lines.rest c.split_line.result.1 c.in-Some.left c.in-Some.is c.split_line.ensures.shorter
