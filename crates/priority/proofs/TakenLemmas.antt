-- How many pages are taken: all that pass, or as many as are left.
use Rattle.std.proofs.Common.{◌≡◌, ℕ, zero, suc, ◌+◌, ◌<◌, ◌≤◌, List, Option, Some, None, length, take, ap, ◌∙◌, sym, arith}
use Rattle.std.specs.Prelude.{sum_by, min, IfSome}
use Rattle.std.proofs.lemmas.List.{length-map, get_or-map, take_all}
use Rattle.std.proofs.lemmas.List.Sorted.{sum_by-IsPermutation}
use Rattle.std.proofs.lemmas.List.Sums.{sum_by_more}
use Rattle.priority.specs.declared.candidates.Candidate.{Candidate}
use Rattle.priority.specs.Candidates.{DistinctStarts}
use Rattle.priority.specs.Order.{InPriority}
use Rattle.priority.specs.Share.{with_share, with_shares}
use Rattle.priority.specs.Chosen.{taken_of}
use Rattle.priority.proofs.ShareLemmas.{share_is, shares_same}
use Rattle.priority.proofs.SortLemmas.{put_in_order}
use Rattle.priority.proofs.WalkLemmas.{no_candidate, passing_of}

-- in priority order, of the first so many candidates
taken_so_far : (n : ℕ) (cs : List Candidate) (i : ℕ) → InPriority cs → i ≤ length cs → taken_of (take i (with_shares (Some n) cs)) ≡ min (sum_by passing_of (take i cs)) n
taken_so_far n cs zero ordered within = omega arith
taken_so_far n cs (suc i) ordered within =
    let f = with_share (Some n) cs in
    let inside : i < length cs = omega (arith, within) in
    let shares = with_shares (Some n) cs in
    let share = ap (λ (c : Candidate). c.share) (get_or-map f cs i no_candidate no_candidate inside) ∙ share_is (Some n) cs i no_candidate ordered inside in
    let next : suc i ≡ i + 1 = omega arith in
    let passing = ap (λ k. sum_by passing_of (take k cs)) next ∙ sum_by_more passing_of cs i no_candidate inside in
    let taken = ap (λ k. taken_of (take k shares)) next ∙ sum_by_more (λ (c : Candidate). c.share) shares i no_candidate (omega (arith, inside, length-map cs f)) in
    omega (arith, share, passing, taken, taken_so_far n cs i ordered (omega (arith, within)))

-- and in any order
pub taken_is : (n : ℕ) (cs : List Candidate) → DistinctStarts cs → taken_of (with_shares (Some n) cs) ≡ min (sum_by passing_of cs) n
taken_is n cs distinct =
    let at = put_in_order cs distinct in
    let ds = at.list in
    let all = ap taken_of (sym (take_all (length ds) (with_shares (Some n) ds) (omega (arith, length-map ds (with_share (Some n) ds))))) ∙ taken_so_far n ds (length ds) at.order (omega arith) ∙ ap (λ xs. min (sum_by passing_of xs) n) (take_all (length ds) ds (omega arith)) in
    omega (arith, all, sum_by-IsPermutation passing_of cs ds at.same, sum_by-IsPermutation (λ (c : Candidate). c.share) (with_shares (Some n) cs) (with_shares (Some n) ds) (shares_same (Some n) cs ds at.same))

pub taken_within : (left : Option ℕ) (cs : List Candidate) → DistinctStarts cs → IfSome left (λ most. taken_of (with_shares left cs) ≤ most)
taken_within None cs distinct = tt
taken_within (Some n) cs distinct = omega (arith, taken_is n cs distinct)
