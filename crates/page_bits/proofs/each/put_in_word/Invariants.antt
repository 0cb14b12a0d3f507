use Rattle.std.proofs.Common.{◌≡◌, ℕ, ◌<◌, take}
use Rattle.page_bits.specs.Bits.{is_set}
use Rattle.page_bits.specs.Runs.{bit_after}
use Rattle.page_bits.proofs.each.put_in_word.Given as goal

abbrev pub invariant-loop-k : goal.invariant-loop-k
invariant-loop-k l = (i : ℕ) → i < 64 → is_set l.now i ≡ bit_after l.from (take l.k l.bits) i (is_set l.fn.word i)
