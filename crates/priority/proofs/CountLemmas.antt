-- What a choice amounts to does not depend on the order of the candidates, nor on those without a share.
use Rattle.std.proofs.Common.{◌≡◌, ℕ, ◌<◌, ◌≤◌, Bool, true, false, cond, List, [], ◌∷◌, Option, Some, None, map, refl, sym, ap, arith}
use Rattle.std.specs.Prelude.{min, filter, nat_lt, IsPermutation}
use Rattle.std.specs.List.{reduce}
use Rattle.std.proofs.lemmas.Bool.Decides.{nat_tests}
use Rattle.std.proofs.lemmas.List.Elements.{filter_passes}
use Rattle.std.proofs.lemmas.List.Sorted.{All-permutation, Contains-permutation, list_any-IsPermutation, sum_by-IsPermutation}
use Rattle.std.proofs.lemmas.List.Sums.{sum_by-cons}
use Rattle.priority.specs.declared.candidates.Candidate.{Candidate}
use Rattle.priority.specs.Chosen.{leaves_pages, lowest_of, taken_of}
use Rattle.priority.specs.Share.{has_share}
use Rattle.priority.proofs.DropLemmas.{all_pass}
use Rattle.priority.proofs.LowestLemmas.{IsLowest, lowest_is, lowest_one}

lowest_moved : (cs ds : List Candidate) → IsPermutation cs ds → (o : Option ℕ) → IsLowest cs o → IsLowest ds o
lowest_moved cs ds same None is = All-permutation (λ (c : Candidate). c.share ≡ 0) cs ds same is
lowest_moved cs ds same (Some m) is =
    let there = Contains-permutation cs ds is.1.1 same (is.1.0, is.1.2, is.1.3) in
    (All-permutation (λ (c : Candidate). 0 < c.share → m ≤ c.score) cs ds same is.0, (there.0, is.1.1, there.1, there.2, is.1.4))

pub lowest_permuted : (cs ds : List Candidate) → IsPermutation cs ds → lowest_of cs ≡ lowest_of ds
lowest_permuted cs ds same = lowest_one ds (lowest_of cs) (lowest_of ds) (lowest_moved cs ds same (lowest_of cs) (lowest_is cs)) (lowest_is ds)

-- the lowest score of the candidates that have a share
abbrev pub lowest_score : List Candidate → Option ℕ
lowest_score cs = reduce min (map (λ c. c.score) cs)

pub lowest_filter : (cs : List Candidate) → lowest_of (filter has_share cs) ≡ lowest_of cs
lowest_filter cs = ap lowest_score (all_pass has_share (filter has_share cs) (filter_passes has_share cs))

pub taken_filter : (cs : List Candidate) → taken_of (filter has_share cs) ≡ taken_of cs
taken_filter [] = refl
taken_filter (c ∷ cs) = by (has_share c) refl (taken_filter cs)
  where
    by : (v : Bool) → has_share c ≡ v → taken_of (filter has_share cs) ≡ taken_of cs → taken_of (cond v (c ∷ filter has_share cs) (filter has_share cs)) ≡ taken_of (c ∷ cs)
    by true test rest = omega (arith, rest, sum_by-cons (λ (x : Candidate). x.share) c cs, sum_by-cons (λ (x : Candidate). x.share) c (filter has_share cs))
    by false test rest =
        let none : c.share ≡ 0 = grind (arith, nat_tests) in
        omega (arith, rest, none, sum_by-cons (λ (x : Candidate). x.share) c cs)

pub taken_permuted : (cs ds : List Candidate) → IsPermutation cs ds → taken_of cs ≡ taken_of ds
taken_permuted cs ds same = sym (sum_by-IsPermutation (λ (c : Candidate). c.share) cs ds same)

pub exceeds_permuted : (cs ds : List Candidate) → IsPermutation cs ds → leaves_pages cs ≡ leaves_pages ds
exceeds_permuted = list_any-IsPermutation (λ (c : Candidate). nat_lt c.share c.passing)
