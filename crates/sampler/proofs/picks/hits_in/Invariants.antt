use Rattle.std.proofs.Common.{◌≡◌}
use Rattle.std.specs.Prelude.{take}
use Rattle.std.specs.List.{count_by}
use Rattle.sampler.proofs.picks.hits_in.Given as goal

abbrev pub invariant-loop-bit : goal.invariant-loop-bit
invariant-loop-bit l = l.hits ≡ count_by (λ hit. hit) (take l.bit-index l.bits)
