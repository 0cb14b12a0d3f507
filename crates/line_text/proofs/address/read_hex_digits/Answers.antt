use Rattle.std.proofs.Common.{arith}
use Rattle.line_text.proofs.Hex.{hex_room}
use Rattle.line_text.proofs.address.read_hex_digits.Goals as goal

pub overflow_mul-value : goal.overflow_mul-value
overflow_mul-value c = omega (arith, hex_room c.loop-byte.byte-index c.loop-byte.value (omega arith) c.loop-byte.invariant.small)

pub overflow_add-value : goal.overflow_add-value
overflow_add-value c =
    omega (arith, hex_room c.loop-byte.byte-index c.loop-byte.value (omega arith) c.loop-byte.invariant.small, c.in_ok-hex_value.ensures.bound)
