-- What lists of candidates keep.
use Rattle.std.proofs.Common.{ℕ, List, [], ◌∷◌, ◌++◌, Option, sym, subst}
use Rattle.std.specs.Prelude.{nat_eq, All, IsPermutation, ◌≢◌}
use Rattle.std.specs.List.{IsDistinct}
use Rattle.std.proofs.lemmas.Cmp.{nat_eq_equiv}
use Rattle.std.proofs.lemmas.Bool.Decides.{Decides-eqb}
use Rattle.std.proofs.lemmas.List.{map_push}
use Rattle.std.proofs.lemmas.List.Elements.{All-map, All-nil, All-push}
use Rattle.std.proofs.lemmas.List.Quantifiers.{all_pairs_push}
use Rattle.std.proofs.lemmas.Map.Made.{AllPairs-from_IsDistinct, IsDistinct-from_AllPairs}
use Rattle.std.proofs.lemmas.List.Sorted.{IsPermutation-map, All-permutation}
use Rattle.std.proofs.lemmas.Map.Keys.{IsDistinct-IsPermutation}
use Rattle.priority.specs.declared.candidates.Candidate.{Candidate}
use Rattle.priority.specs.Candidates.{IsCandidate, AreCandidates, DistinctStarts, starts}
use Rattle.priority.specs.Share.{with_share, with_shares}
use Rattle.priority.proofs.ShareLemmas.{starts_same}

pub distinct_permuted : (cs ds : List Candidate) → IsPermutation cs ds → DistinctStarts cs → DistinctStarts ds
distinct_permuted cs ds same distinct = IsDistinct-IsPermutation nat_eq nat_eq_equiv.symm (starts cs) (starts ds) (IsPermutation-map (λ (r : Candidate). r.start) cs ds same) distinct

pub sound_none : AreCandidates []
unfolding IsDistinct
sound_none = record { distinct = tt; each = All-nil IsCandidate }

-- one more, which starts at another page
pub sound_push : (cs : List Candidate) (c : Candidate) → AreCandidates cs → IsCandidate c → All (λ d. d.start ≢ c.start) cs → AreCandidates (cs ++ c ∷ [])
sound_push cs c sound one distinct = record {
  distinct =
      let f : Candidate → ℕ = λ d. d.start in
      let before = AllPairs-from_IsDistinct Decides-eqb (starts cs) sound.distinct in
      let others : All (λ n. n ≢ c.start) (starts cs) = All-map (λ n. n ≢ c.start) f cs distinct in
      subst (λ ns. IsDistinct nat_eq ns) (sym (map_push f cs c))
      (IsDistinct-from_AllPairs Decides-eqb (starts cs ++ c.start ∷ []) (all_pairs_push (λ x y. x ≢ y) (starts cs) c.start before others));
  each = All-push IsCandidate cs c sound.each one;
}

pub sound_permuted : (cs ds : List Candidate) → IsPermutation cs ds → AreCandidates cs → AreCandidates ds
sound_permuted cs ds same sound = record { distinct = distinct_permuted cs ds same sound.distinct; each = All-permutation IsCandidate cs ds same sound.each }

pub distinct_shares : (left : Option ℕ) (cs : List Candidate) → DistinctStarts cs → DistinctStarts (with_shares left cs)
distinct_shares left cs distinct = subst (λ ns. IsDistinct nat_eq ns) (sym (starts_same left cs cs)) distinct

pub sound_shares : (left : Option ℕ) (cs : List Candidate) → AreCandidates cs → AreCandidates (with_shares left cs)
sound_shares left cs sound = record {
  distinct = distinct_shares left cs sound.distinct;
  each = All-map IsCandidate (with_share left cs) cs (λ k d within. let one = sound.each k d within in record { score = one.score; passing = one.passing });
}
