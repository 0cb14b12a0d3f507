use Rattle.line_text.proofs.Plain.{is_plain-goes_on}
use Rattle.line_text.proofs.parts.is_plain.Goals as goal

pub bytes-init : goal.bytes-init
bytes-init c = is_plain-goes_on c.args.line.now
