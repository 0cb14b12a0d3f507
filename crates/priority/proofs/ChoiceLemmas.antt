-- What a choice makes of candidates: those with a share, in priority order.
use Rattle.std.proofs.Common.{◌≡◌, ◌≤◌, ℕ, true, List, Option, length, refl, sym, ap, ◌∙◌, subst, arith}
use Rattle.std.specs.Prelude.{slice_index_or, filter, not, All, IfSome}
use Rattle.std.proofs.lemmas.Bool.Decides.{nat_tests}
use Rattle.std.proofs.lemmas.List.{length-map}
use Rattle.std.proofs.lemmas.List.Elements.{All-filter, filter_passes}
use Rattle.std.proofs.lemmas.List.Filters.{length-filter_both}
use Rattle.std.proofs.lemmas.List.Kept.{AllPairs-filter}
use Rattle.std.proofs.lemmas.List.Sorted.{All-permutation, length_permutation, sum_by-IsPermutation}
use Rattle.priority.specs.declared.candidates.Candidate.{Candidate}
use Rattle.priority.specs.Candidates.{AreCandidates, DistinctStarts}
use Rattle.priority.specs.Kept.{SameChoice}
use Rattle.priority.specs.Order.{is_before, InPriority, in_order}
use Rattle.priority.specs.Share.{has_share, with_share, with_shares}
use Rattle.priority.specs.Chosen.{lowest_of, taken_of}
use Rattle.priority.specs.Best.{IsBest, IsCertified}
use Rattle.priority.proofs.ShareLemmas.{shares_fit, shares_same}
use Rattle.priority.proofs.CandidateLemmas.{distinct_permuted, distinct_shares, sound_permuted, sound_shares}
use Rattle.priority.proofs.CountLemmas.{lowest_filter, lowest_permuted, taken_filter}
use Rattle.priority.proofs.DropLemmas.{distinct_filter, sound_filter}
use Rattle.priority.proofs.TakenLemmas.{taken_within}
use Rattle.priority.proofs.RankLemmas.{order_of, same_of, shares_of_order}
use Rattle.priority.proofs.BestLemmas.{certified, shares_best}

-- the candidates with a share, in priority order
abbrev pub chosen_of : Option ℕ → List Candidate → List Candidate
chosen_of left cs = filter has_share (in_order (with_shares left cs))

-- the candidates that are not dropped have their shares
pub record Finished (left : Option ℕ) (cs ws : List Candidate) : Type 0 where
  pub list : filter has_share ws ≡ chosen_of left cs
  pub taken : taken_of ws ≡ taken_of (with_shares left cs)
  pub lowest : lowest_of ws ≡ lowest_of (with_shares left cs)

finish : (left : Option ℕ) (cs ds : List Candidate) → DistinctStarts cs → DistinctStarts ds → SameChoice left cs ds → Finished left cs (with_shares left (in_order ds))
finish left cs ds distinct kept same =
    let ws = with_shares left (in_order ds) in
    let shared = with_shares left cs in
    let list : filter has_share ws ≡ chosen_of left cs = ap (filter has_share) (sym (shares_of_order left ds kept)) ∙ same.list in
    record {
      list = list;
      taken = sum_by-IsPermutation (λ (c : Candidate). c.share) (with_shares left ds) ws (shares_same left ds (in_order ds) (same_of ds kept)) ∙ same.taken;
      lowest =
          sym (lowest_filter ws)
          ∙ ap lowest_of list
          ∙ lowest_filter (in_order shared)
          ∙ sym (lowest_permuted shared (in_order shared) (same_of shared (distinct_shares left cs distinct)));
    }

pub finished : (left : Option ℕ) (cs ds ws : List Candidate) → DistinctStarts cs → DistinctStarts ds → SameChoice left cs ds → ws ≡ with_shares left (in_order ds) → Finished left cs ws
finished left cs ds ws distinct kept same is = subst (λ xs. Finished left cs xs) (sym is) (finish left cs ds distinct kept same)

pub record AfterChoice (left : Option ℕ) (cs ds : List Candidate) : Type 0 where
  pub list : ds ≡ filter has_share (in_order (with_shares left cs))
  pub order : InPriority ds
  pub best : IsBest left (with_shares left cs)
  pub certificate : IsCertified left (with_shares left cs)
  pub distinct : DistinctStarts ds
  pub len : length ds ≤ length cs
  pub each : All (λ c. (1 ≤ c.share) × (c.share ≤ c.passing)) ds
  pub within : IfSome left (λ most. taken_of ds ≤ most)

chosen_list : (left : Option ℕ) (cs : List Candidate) → DistinctStarts cs → AfterChoice left cs (chosen_of left cs)
chosen_list left cs distinct =
    let shared = with_shares left cs in
    let apart = distinct_shares left cs distinct in
    let all = in_order shared in
    let same = same_of shared apart in
    let taken : taken_of (filter has_share all) ≡ taken_of shared = taken_filter all ∙ sum_by-IsPermutation (λ (c : Candidate). c.share) shared all same in
    let fits = All-filter has_share (λ c. c.share ≤ c.passing) all (All-permutation (λ (c : Candidate). c.share ≤ c.passing) shared all same (shares_fit left cs)) in
    record {
      list = refl;
      order = AllPairs-filter (λ r s. is_before r s ≡ true) has_share all (order_of shared apart);
      best = shares_best left cs distinct;
      certificate = certified left cs distinct;
      distinct = distinct_filter has_share all (distinct_permuted shared all same apart);
      len = omega (arith, length-filter_both has_share (λ c. not (has_share c)) (λ c. refl) all, length_permutation shared all same, length-map cs (with_share left cs));
      each = λ k d within.
          let some : has_share (slice_index_or (filter has_share all) k d) ≡ true = filter_passes has_share all k d within in
          let one : 1 ≤ (slice_index_or (filter has_share all) k d).share = grind (arith, nat_tests) in
          (one, fits k d within);
      within = subst (λ n. IfSome left (λ most. n ≤ most)) (sym taken) (taken_within left cs distinct);
    }

pub after_choice : (left : Option ℕ) (cs ds : List Candidate) → DistinctStarts cs → ds ≡ chosen_of left cs → AfterChoice left cs ds
after_choice left cs ds distinct is = subst (λ xs. AfterChoice left cs xs) (sym is) (chosen_list left cs distinct)

pub still_sound : (left : Option ℕ) (cs ds : List Candidate) → AreCandidates cs → ds ≡ chosen_of left cs → AreCandidates ds
still_sound left cs ds sound is =
    let shared = sound_shares left cs sound in
    subst (λ xs. AreCandidates xs) (sym is) (sound_filter has_share (in_order (with_shares left cs)) (sound_permuted (with_shares left cs) (in_order (with_shares left cs)) (same_of (with_shares left cs) shared.distinct) shared))
