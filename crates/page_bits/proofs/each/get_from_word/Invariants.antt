use Rattle.std.proofs.Common.{◌≡◌, ℕ, ◌+◌, ◌<◌, false, length, get_or}
use Rattle.page_bits.specs.Bits.{is_set}
use Rattle.page_bits.proofs.each.get_from_word.Given as goal

abbrev pub invariant-loop-k : goal.invariant-loop-k
invariant-loop-k l = record {
  len : length l.bits ≡ length l.fn.bits;
  each : (i : ℕ) → i < l.k → get_or l.bits i false ≡ is_set l.word (l.from + i);
}
