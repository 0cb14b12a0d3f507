use Rattle.std.proofs.Common.{sym, ap}
use Rattle.line_text.specs.Parts.{one_of}
use Rattle.line_text.proofs.Separators.{parts-split_at_byte-None}
use Rattle.line_text.proofs.FewParts.{more_than_one}
use Rattle.line_text.proofs.parts.only_part.Goals as goal

pub returns-in-None : goal.returns-in-None
returns-in-None c = record { exact = sym (ap one_of (parts-split_at_byte-None c.args.separator c.args.bytes.now (sym c.in-None.ensures.exact))) }

pub returns-in-Some : goal.returns-in-Some
returns-in-Some c = record { exact = sym (more_than_one c.args.separator c.args.bytes.now c.in-Some._first.now c.in-Some._rest.now (sym c.in-Some.ensures.exact)) }
