use Rattle.std.proofs.Common.{length, subst, sym, ap, arith}
use Rattle.priority.specs.Candidates.{AreCandidates}
use Rattle.priority.proofs.CandidateLemmas.{sound_none}
use Rattle.priority.proofs.candidates.Candidates.clear.Goals as goal

pub invariant_of-self : goal.invariant_of-self
invariant_of-self c =
    let none = c.clear.ensures.items in
    record {
      sound = subst (λ cs. AreCandidates cs) (sym none) sound_none;
      room = omega (arith, ap length none);
      small = c.self.invariant.small;
      reserved = omega (arith, c.clear.ensures.capacity, c.self.invariant.reserved);
    }
