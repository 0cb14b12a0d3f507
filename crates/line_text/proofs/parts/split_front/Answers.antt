use Rattle.std.proofs.Common.{sym}
use Rattle.line_text.proofs.Separators.{parts-split_at_byte-Some, parts-split_at_byte-None}
use Rattle.line_text.proofs.parts.split_front.Goals as goal

pub returns-in-Some-clause-exact : goal.returns-in-Some-clause-exact
returns-in-Some-clause-exact c =
    parts-split_at_byte-Some c.args.separator c.args.bytes.now c.in-Some.front.now c.in-Some.rest.now (sym c.in-Some.ensures.exact)

pub returns-in-None-clause-exact : goal.returns-in-None-clause-exact
returns-in-None-clause-exact c = parts-split_at_byte-None c.args.separator c.args.bytes.now (sym c.in-None.ensures.exact)
