use Rattle.std.proofs.Common.{sym, ap, ◌∙◌, arith, Some}
use Rattle.journal_check.proofs.BitsRead.{bits_read, other_count, other_digits}
use Rattle.journal_check.proofs.entries.lines.read_bits.Goals as goal

pub returns-then-digits-count : goal.returns-then-digits-count
returns-then-digits-count c = other_count c.args.digits.now c.args.count c.if-digits-count.true

pub returns-then-not-are_bits : goal.returns-then-not-are_bits
returns-then-not-are_bits c = other_digits c.args.digits.now c.args.count (sym c.are_bits.ensures ∙ c.if-not-are_bits.true)

pub returns : goal.returns
returns c = ap (λ bits. Some bits) c.in_ok-bits.ensures ∙ bits_read c.args.digits.now c.args.count (omega (arith, c.if-digits-count.false)) (sym c.are_bits.ensures ∙ c.if-not-are_bits.false)
