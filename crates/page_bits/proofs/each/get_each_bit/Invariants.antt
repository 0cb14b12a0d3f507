use Rattle.std.proofs.Common.{◌≡◌, ℕ, ◌+◌, ◌-◌, ◌≤◌, ◌<◌, false, length, get_or}
use Rattle.page_bits.specs.Bits.{bit_in}
use Rattle.page_bits.proofs.each.get_each_bit.Given as goal

abbrev pub invariant-words : goal.invariant-words
invariant-words l = record {
  done : l.done ≤ length l.bits;
  len : length l.bits ≡ length l.fn.bits;
  each : (k : ℕ) → k < l.done → get_or l.bits k false ≡ bit_in l.words (l.start + k);
}

abbrev pub decreases-words : goal.decreases-words
decreases-words l = length l.bits - l.done
