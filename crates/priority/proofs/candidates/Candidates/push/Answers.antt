use Rattle.std.proofs.Common.{length, subst, sym, ap, arith}
use Rattle.std.specs.Prelude.{All, ◌≢◌}
use Rattle.std.proofs.lemmas.List.{length_push}
use Rattle.priority.specs.declared.candidates.Candidate.{Candidate}
use Rattle.priority.specs.Candidates.{AreCandidates, CandidateList}
use Rattle.priority.proofs.CandidateLemmas.{sound_push}
use Rattle.priority.proofs.candidates.Candidates.push.Goals as goal

pub invariant_of-self : goal.invariant_of-self
invariant_of-self c =
    let cs = c.self.inside.items.items in
    let new : Candidate = record { target = c.args.target; start = c.args.start; score = c.args.score; passing = c.args.passing; share = 0 } in
    let same = ap (λ (r : CandidateList). r.list) c.self.view_is in
    let cap_same = ap (λ (r : CandidateList). r.cap) c.self.view_is in
    let more = c.push_reserved.ensures.items in
    record {
      sound =
          subst (λ ds. AreCandidates ds) (sym more)
          (sound_push cs new c.self.invariant.sound (record { score = c.requires.score; passing = c.requires.passing }) (subst (λ ds. All (λ d. d.start ≢ c.args.start) ds) (sym same) c.requires.distinct));
      room = omega (arith, c.requires.room, ap length same, cap_same, ap length more, length_push cs new);
      small = c.self.invariant.small;
      reserved = omega (arith, c.push_reserved.ensures.capacity, c.self.invariant.reserved);
    }
