use Rattle.std.proofs.Common.{Some, None, sym, ap}
use Rattle.line_text.specs.Parts.{four_of}
use Rattle.line_text.proofs.Separators.{parts-split_at_byte-None}
use Rattle.line_text.proofs.FewParts.{four_from}
use Rattle.line_text.proofs.parts.four_parts.Goals as goal

pub returns-in_err-first : goal.returns-in_err-first
returns-in_err-first c =
    rw c.from_residual.ensures
    (record { exact = sym (ap four_of (parts-split_at_byte-None c.args.separator c.args.bytes.now (sym c.in_err-first.ensures.exact))) })

pub returns-in_err-second : goal.returns-in_err-second
returns-in_err-second c =
    rw c.from_residual-in_err-second.ensures
    (record { exact = four_from c.args.separator c.args.bytes.now c.in_ok-first.first.now c.in_ok-first.rest.now None (sym c.in_ok-first.ensures.exact) c.in_err-second.ensures.exact })

pub returns : goal.returns
returns c =
    record { exact = four_from c.args.separator c.args.bytes.now c.in_ok-first.first.now c.in_ok-first.rest.now (Some (c.in_ok-second.second.now, c.in_ok-second.third.now, c.in_ok-second.fourth.now)) (sym c.in_ok-first.ensures.exact) c.in_ok-second.ensures.exact }
