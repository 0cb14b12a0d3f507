use Rattle.std.proofs.Common.{◌≡◌, false, vec_capacity}
use Rattle.std.specs.Prelude.{replicate}
use Rattle.sampler.proofs.picks.clear_bits.Given as goal

abbrev pub invariant-loop : goal.invariant-loop
invariant-loop l = record {
  bits : l.bits.items ≡ replicate l.counter false;
  capacity : vec_capacity l.bits ≡ vec_capacity l.fn.bits;
}
