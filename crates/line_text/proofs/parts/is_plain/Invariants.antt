use Rattle.std.proofs.Common.{◌≡◌, ◌==◌, ◌&&◌, drop}
use Rattle.line_text.specs.Parts.{is_plain}
use Rattle.line_text.proofs.Plain.{goes_on}
use Rattle.line_text.proofs.parts.is_plain.Given as goal

abbrev pub invariant-bytes : goal.invariant-bytes
invariant-bytes l = is_plain l.line ≡ (l.plain && goes_on (l.before == 0x20) (drop l.byte-index l.line))
