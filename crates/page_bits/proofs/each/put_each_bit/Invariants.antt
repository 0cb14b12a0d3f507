use Rattle.std.proofs.Common.{◌≡◌, ℕ, ◌≤◌, ◌-◌, length, take}
use Rattle.page_bits.specs.Bits.{bit_in}
use Rattle.page_bits.specs.Runs.{bit_after}
use Rattle.page_bits.proofs.each.put_each_bit.Given as goal

abbrev pub invariant-words : goal.invariant-words
invariant-words l = record {
  done : l.done ≤ length l.bits;
  len : length l.words ≡ length l.fn.words;
  each : (p : ℕ) → bit_in l.words p ≡ bit_after l.start (take l.done l.bits) p (bit_in l.fn.words p);
}

abbrev pub decreases-words : goal.decreases-words
decreases-words l = length l.bits - l.done
