use Rattle.std.proofs.Common.{length, subst, sym, ap, arith}
use Rattle.priority.specs.Candidates.{AreCandidates}
use Rattle.priority.proofs.CandidateLemmas.{sound_none}
use Rattle.priority.proofs.candidates.Candidates.new.Goals as goal

pub invariant_of-result : goal.invariant_of-result
invariant_of-result c =
    let none = c.in_ok-items.ensures.items in
    record {
      sound = subst (λ cs. AreCandidates cs) (sym none) sound_none;
      room = omega (arith, ap length none);
      small = omega (arith, c.ranges.cap.fits);
      reserved = omega (arith, c.in_ok-items.ensures.capacity);
    }
