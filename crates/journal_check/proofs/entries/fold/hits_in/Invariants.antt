use Rattle.std.proofs.Common.{◌≡◌, take}
use Rattle.std.specs.List.{count_by}
use Rattle.journal_check.proofs.entries.fold.hits_in.Given as goal

abbrev pub invariant-loop-k : goal.invariant-loop-k
invariant-loop-k l = l.hits ≡ count_by (λ bit. bit) (take l.k l.bits)
