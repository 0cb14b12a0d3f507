-- The walk over candidates in priority order, which gives each its share.
use Rattle.std.proofs.Common.{◌≡◌, ℕ, ◌+◌, ◌<◌, ◌≤◌, true, List, [], ◌∷◌, Option, Some, ◌++◌, length, take, drop, sym, ap, ◌∙◌, append_assoc, arith}
use Rattle.std.specs.Prelude.{nat_lt, slice_index_or, slice_set, sum_by, All, if◌then◌else◌}
use Rattle.std.proofs.lemmas.Bool.Decides.{nat_tests}
use Rattle.std.proofs.lemmas.List.{drop_more, take_more, get_or-take, get_or_default, length-map, length-take-le, get_or_at, set_at, get_or-map}
use Rattle.std.proofs.lemmas.List.Sums.{sum_by_more}
use Rattle.priority.specs.declared.candidates.Candidate.{Candidate}
use Rattle.priority.specs.Order.{is_before, InPriority}
use Rattle.priority.specs.Share.{share_after, with_share, with_shares}
use Rattle.priority.specs.Chosen.{lowest_of}
use Rattle.priority.proofs.ShareLemmas.{share_is, order_same}
use Rattle.priority.proofs.LowestLemmas.{lowest_push}

-- the candidate that stands for an index past the end
abbrev pub no_candidate : Candidate
no_candidate = record { target = 0; start = 0; score = 0; passing = 0; share = 0 }

-- the first i candidates have their shares, and the others are as they were
abbrev pub SharedUpTo : Option ℕ → List Candidate → List Candidate → ℕ → Type 0
SharedUpTo left cs items i = items ≡ take i (with_shares left cs) ++ drop i cs

abbrev pub passing_of : Candidate → ℕ
passing_of c = c.passing

-- the candidate at the index, as it was and with its share
pub at_index : (left : Option ℕ) (cs items : List Candidate) (i : ℕ) → i < length cs → SharedUpTo left cs items i → slice_index_or items i no_candidate ≡ slice_index_or cs i no_candidate
at_index left cs items i within is =
    let front = take i (with_shares left cs) in
    let size : length front ≡ i = length-take-le i (with_shares left cs) (omega (arith, within, length-map cs (with_share left cs))) in
    ap (λ l. slice_index_or l i no_candidate) (is ∙ ap (λ r. front ++ r) (drop_more cs i no_candidate within))
    ∙ get_or_at front (slice_index_or cs i no_candidate) (drop (i + 1) cs) no_candidate i size

pub written : (left : Option ℕ) (cs items : List Candidate) (i before share : ℕ) → InPriority cs → i < length cs → before ≡ sum_by passing_of (take i cs) → SharedUpTo left cs items i → share ≡ share_after left before (slice_index_or items i no_candidate).passing → record (slice_index_or items i no_candidate) { share = share } ≡ slice_index_or (with_shares left cs) i no_candidate
written left cs items i before share ordered within total is given =
    let x = slice_index_or cs i no_candidate in
    let at = at_index left cs items i within is in
    let size : share ≡ (with_share left cs x).share = given ∙ ap (λ (y : Candidate). share_after left before y.passing) at ∙ ap (λ n. share_after left n x.passing) total ∙ sym (share_is left cs i no_candidate ordered within) in
    ap (λ (y : Candidate). record y { share = share }) at
    ∙ ap (λ n. record x { share = n }) size
    ∙ sym (get_or-map (with_share left cs) cs i no_candidate no_candidate within)

-- one step on
pub passing_step : (left : Option ℕ) (cs items : List Candidate) (i before passing : ℕ) → i < length cs → before ≡ sum_by passing_of (take i cs) → SharedUpTo left cs items i → passing ≡ (slice_index_or items i no_candidate).passing → before + passing ≡ sum_by passing_of (take (i + 1) cs)
passing_step left cs items i before passing within total is given =
    omega (arith, total, given, ap passing_of (at_index left cs items i within is), sum_by_more passing_of cs i no_candidate within)

pub shared_step : (left : Option ℕ) (cs items : List Candidate) (i : ℕ) (y : Candidate) → i < length cs → SharedUpTo left cs items i → y ≡ slice_index_or (with_shares left cs) i no_candidate → SharedUpTo left cs (slice_set items i y) (i + 1)
shared_step left cs items i y within is given =
    let shares = with_shares left cs in
    let front = take i shares in
    let rest = drop (i + 1) cs in
    let inside : i < length shares = omega (arith, within, length-map cs (with_share left cs)) in
    let size : length front ≡ i = length-take-le i shares (omega (arith, inside)) in
    ap (λ l. slice_set l i y) (is ∙ ap (λ r. front ++ r) (drop_more cs i no_candidate within))
    ∙ set_at front (slice_index_or cs i no_candidate) rest y i size
    ∙ sym (append_assoc front (y ∷ []) rest)
    ∙ ap (λ z. (front ++ z ∷ []) ++ rest) given
    ∙ ap (λ l. l ++ rest) (sym (take_more shares i no_candidate inside))

-- of two candidates the one that comes before the other scores no lower
pub score_falls : (r s : Candidate) → is_before r s ≡ true → s.score ≤ r.score
score_falls r s before = grind (arith, nat_tests)

pub lowest_step : (left : Option ℕ) (cs : List Candidate) (i : ℕ) (y : Candidate) → InPriority cs → i < length cs → y ≡ slice_index_or (with_shares left cs) i no_candidate → (if nat_lt 0 y.share then Some y.score else lowest_of (take i (with_shares left cs))) ≡ lowest_of (take (i + 1) (with_shares left cs))
lowest_step left cs i y ordered within given =
    let shares = with_shares left cs in
    let last = slice_index_or shares i no_candidate in
    let inside : i < length shares = omega (arith, within, length-map cs (with_share left cs)) in
    let low : All (λ x. last.score ≤ x.score) (take i shares) = λ k d before.
    let early : k < i = omega (arith, before, length-take-le i shares (omega (arith, inside))) in
    let falls = score_falls (slice_index_or shares k d) (slice_index_or shares i d) (order_same left cs ordered k i d early inside) in
    rw (get_or-take i shares k d early, get_or_default shares i no_candidate d inside) falls in
    ap (λ (z : Candidate). if nat_lt 0 z.share then Some z.score else lowest_of (take i shares)) given
    ∙ sym (ap lowest_of (take_more shares i no_candidate inside) ∙ lowest_push (take i shares) last low)
