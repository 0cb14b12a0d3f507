use Rattle.std.proofs.Common.{◌≡◌, vec_capacity, vec_len}
use Rattle.sampler.proofs.picks.set_count.Given as goal

abbrev pub invariant-loop : goal.invariant-loop
invariant-loop l = record {
  len : vec_len l.pages ≡ l.counter;
  capacity : vec_capacity l.pages ≡ vec_capacity l.fn.pages;
}
