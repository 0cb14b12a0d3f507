use Rattle.std.proofs.Common.{◌≡◌, map, take}
use Rattle.damon_live.proofs.paces.GatePace.new.Given as goal

abbrev pub invariant-gates : goal.invariant-gates
invariant-gates g l = map (λ gate. gate.hold) l.gates.items ≡ take l.hold-index l.holds
