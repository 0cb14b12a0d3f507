-- Candidates that come after enough others get no share, and the shares of the others do not depend on them.
use Rattle.std.proofs.Common.{◌≡◌, ℕ, suc, ◌<◌, ◌≤◌, Bool, true, false, List, [], ◌∷◌, ◌++◌, Option, Some, length, map, refl, sym, ap, ◌∙◌, arith}
use Rattle.std.specs.Prelude.{slice_index_or, filter, not, nat_lt, sum_by, All, ◌≢◌, if◌then◌else◌}
use Rattle.std.specs.List.{AllPairs}
use Rattle.std.proofs.lemmas.Bool.Decides.{Decides-eqb, nat_tests}
use Rattle.std.proofs.lemmas.List.{append-nil, get_or-map, length-map, map-append}
use Rattle.std.proofs.lemmas.List.Elements.{All-append, All-filter, All-head, All-map, All-tail, filter-append, filter_passes}
use Rattle.std.proofs.lemmas.List.Filters.{sum_by-filter_both}
use Rattle.std.proofs.lemmas.List.Kept.{AllPairs-filter}
use Rattle.std.proofs.lemmas.List.Sorted.{All-permutation, IsPermutation-append, IsPermutation-filter_both, IsPermutation-trans, sum_by-IsPermutation}
use Rattle.std.proofs.lemmas.List.Sums.{sum_by-append}
use Rattle.std.proofs.lemmas.Map.Made.{AllPairs-from_IsDistinct, IsDistinct-from_AllPairs}
use Rattle.priority.specs.declared.candidates.Candidate.{Candidate}
use Rattle.priority.specs.Candidates.{AreCandidates, DistinctStarts, IsCandidate, starts}
use Rattle.priority.specs.Kept.{SameChoice, passing_of_all, up_to}
use Rattle.priority.specs.Order.{is_before, InPriority, in_order}
use Rattle.priority.specs.Share.{has_share, share_after, with_share, with_shares}
use Rattle.priority.proofs.OrderLemmas.{before_once}
use Rattle.priority.proofs.RankLemmas.{in_order_is, order_of, same_of, shares_of_order}
use Rattle.priority.proofs.ShareLemmas.{none_pass}
use Rattle.priority.proofs.SortLemmas.{in_front}
use Rattle.priority.proofs.TakenLemmas.{taken_is}
use Rattle.priority.proofs.WalkLemmas.{passing_of}

-- ---- candidates of which some are dropped

-- what is dropped in any case may be dropped before
pub filter_twice : {X : Type 0} (p q : X → Bool) (xs : List X) → ((x : X) → p x ≡ false → q x ≡ false) → filter q (filter p xs) ≡ filter q xs
filter_twice p q [] none = refl
filter_twice p q (x ∷ xs) none = step (p x) (none x) (filter_twice p q xs none)
  where
    step : (b : Bool) → (b ≡ false → q x ≡ false) → filter q (filter p xs) ≡ filter q xs → filter q (if b then x ∷ filter p xs else filter p xs) ≡ filter q (x ∷ xs)
    step true other rest = ap (λ ys. if q x then x ∷ ys else ys) rest
    step false other rest = rw (other refl) rest

starts_apart : (cs : List Candidate) → DistinctStarts cs → AllPairs (λ (r s : Candidate). r.start ≢ s.start) cs
starts_apart cs distinct i j d before within =
    let f : Candidate → ℕ = λ c. c.start in
    let first = get_or-map f cs i d d.start (omega (arith, before, within)) in
    let next = get_or-map f cs j d d.start within in
    let differ : slice_index_or (starts cs) i d.start ≢ slice_index_or (starts cs) j d.start = AllPairs-from_IsDistinct Decides-eqb (starts cs) distinct i j d.start before (omega (arith, within, length-map cs f)) in
    λ same. differ (first ∙ same ∙ sym next)

apart_starts : (cs : List Candidate) → AllPairs (λ (r s : Candidate). r.start ≢ s.start) cs → DistinctStarts cs
apart_starts [] apart = IsDistinct-from_AllPairs Decides-eqb [] (λ i j n before within. absurd (omega (arith, within)))
apart_starts (c ∷ cs) apart = IsDistinct-from_AllPairs Decides-eqb (starts (c ∷ cs)) (λ i j n before within.
    let f : Candidate → ℕ = λ x. x.start in
    let inside : j < length (c ∷ cs) = omega (arith, within, length-map (c ∷ cs) f) in
    let first = get_or-map f (c ∷ cs) i c n (omega (arith, before, inside)) in
    let next = get_or-map f (c ∷ cs) j c n inside in
    λ same. apart i j c before inside (sym first ∙ same ∙ next))

pub distinct_filter : (p : Candidate → Bool) (cs : List Candidate) → DistinctStarts cs → DistinctStarts (filter p cs)
distinct_filter p cs distinct = apart_starts (filter p cs) (AllPairs-filter (λ (r s : Candidate). r.start ≢ s.start) p cs (starts_apart cs distinct))

pub sound_filter : (p : Candidate → Bool) (cs : List Candidate) → AreCandidates cs → AreCandidates (filter p cs)
sound_filter p cs sound = record { distinct = distinct_filter p cs sound.distinct; each = All-filter p IsCandidate cs sound.each }

-- ---- one list before another

-- all candidates of the first list come before all of the second
abbrev pub AllBefore : List Candidate → List Candidate → Type 0
AllBefore ps qs = All (λ p. All (λ q. is_before p q ≡ true) qs) ps

join_order : (ps qs : List Candidate) → InPriority ps → InPriority qs → AllBefore ps qs → InPriority (ps ++ qs)
join_order [] qs first ordered before = ordered
join_order (p ∷ ps) qs first ordered before =
    let Later : Candidate → Type 0 = λ r. All (λ q. is_before r q ≡ true) qs in
    in_front p (ps ++ qs) (All-append (λ d. is_before p d ≡ true) ps qs (λ k e within. first 0 (suc k) e (omega arith) (omega (arith, within))) (All-head Later p ps before))
    (join_order ps qs (λ i j e less within. first (suc i) (suc j) e (omega (arith, less)) (omega (arith, within))) ordered (All-tail Later p ps before))

pub all_pass : {X : Type 0} (p : X → Bool) (xs : List X) → All (λ x. p x ≡ true) xs → filter p xs ≡ xs
all_pass p [] all = refl
all_pass p (x ∷ xs) all = rw (all 0 x (omega arith)) (ap (λ ys. x ∷ ys) (all_pass p xs (All-tail (λ y. p y ≡ true) x xs all)))

map_on : {X Y : Type 0} (f g : X → Y) (xs : List X) → All (λ x. f x ≡ g x) xs → map f xs ≡ map g xs
map_on f g [] all = refl
map_on f g (x ∷ xs) all = ap (λ y. y ∷ map f xs) (all 0 x (omega arith)) ∙ ap (λ ys. g x ∷ ys) (map_on f g xs (All-tail (λ y. f y ≡ g y) x xs all))

-- the share of a candidate does not depend on those that it comes before
front_share : (left : Option ℕ) (ps qs : List Candidate) (r : Candidate) → All (λ q. is_before r q ≡ true) qs → with_share left (ps ++ qs) r ≡ with_share left ps r
front_share left ps qs r first =
    let earlier : Candidate → Bool = λ s. is_before s r in
    let none : filter earlier qs ≡ [] = none_pass earlier qs (λ k d within. before_once r (slice_index_or qs k d) (first k d within)) in
    ap (λ cs. record r { share = share_after left (sum_by passing_of cs) r.passing }) (filter-append earlier ps qs ∙ ap (λ cs. filter earlier ps ++ cs) none ∙ append-nil (filter earlier ps))

-- a candidate after enough others has no share
back_share : (n : ℕ) (ps qs : List Candidate) (r : Candidate) → All (λ p. is_before p r ≡ true) ps → n ≤ sum_by passing_of ps → has_share (with_share (Some n) (ps ++ qs) r) ≡ false
back_share n ps qs r last enough =
    let earlier : Candidate → Bool = λ s. is_before s r in
    let before = ap (sum_by passing_of) (filter-append earlier ps qs ∙ ap (λ cs. cs ++ filter earlier qs) (all_pass earlier ps last)) ∙ sum_by-append passing_of ps (filter earlier qs) in
    let none : (with_share (Some n) (ps ++ qs) r).share ≡ 0 = omega (arith, before, enough) in
    ap (λ k. nat_lt 0 k) none

kept_shares : (n : ℕ) (ps qs : List Candidate) → AllBefore ps qs → n ≤ sum_by passing_of ps → filter has_share (with_shares (Some n) (ps ++ qs)) ≡ filter has_share (with_shares (Some n) ps)
kept_shares n ps qs before enough =
    let f = with_share (Some n) (ps ++ qs) in
    let none : filter has_share (map f qs) ≡ [] = none_pass has_share (map f qs) (All-map (λ c. has_share c ≡ false) f qs (λ j e inside. back_share n ps qs (slice_index_or qs j e) (λ k d within. before k d within j e inside) enough)) in
    ap (filter has_share) (map-append f ps qs)
    ∙ filter-append has_share (map f ps) (map f qs)
    ∙ ap (λ cs. filter has_share (map f ps) ++ cs) none
    ∙ append-nil (filter has_share (map f ps))
    ∙ ap (filter has_share) (map_on f (with_share (Some n) ps) ps (λ k d within. front_share (Some n) ps qs (slice_index_or ps k d) (λ j e inside. before k d within j e inside)))

-- ---- dropping what comes after a candidate

not_not : (b : Bool) → b ≡ not (not b)
not_not true = refl
not_not false = refl

not_true : (b : Bool) → not b ≡ true → b ≡ false
not_true true is = cc is
not_true false is = refl

between : (t d e : Candidate) → is_before t d ≡ false → is_before t e ≡ true → is_before d e ≡ true
between t d e not_after after = grind (arith, nat_tests)

-- the candidates that are kept and those that are dropped, each in order
pub record Parts (last : Candidate) (cs : List Candidate) : Type 0 where
  pub kept : DistinctStarts (up_to last cs)
  pub before : AllBefore (in_order (up_to last cs)) (in_order (filter (is_before last) cs))
  pub order : in_order cs ≡ in_order (up_to last cs) ++ in_order (filter (is_before last) cs)

parts : (last : Candidate) (cs : List Candidate) → DistinctStarts cs → Parts last cs
parts last cs distinct =
    let keep : Candidate → Bool = λ c. not (is_before last c) in
    let ds = filter keep cs in
    let es = filter (is_before last) cs in
    let ps = in_order ds in
    let qs = in_order es in
    let kept = distinct_filter keep cs distinct in
    let dropped = distinct_filter (is_before last) cs distinct in
    let same = IsPermutation-trans cs (ds ++ es) (ps ++ qs) (IsPermutation-filter_both keep (is_before last) (λ c. not_not (is_before last c)) cs) (IsPermutation-append ds ps es qs (same_of ds kept) (same_of es dropped)) in
    let one : AllBefore ds es = λ k d within j e inside.
    between last (slice_index_or ds k d) (slice_index_or es j e) (not_true (is_before last (slice_index_or ds k d)) (filter_passes keep cs k d within)) (filter_passes (is_before last) cs j e inside) in
    let before : AllBefore ps qs = All-permutation (λ p. All (λ q. is_before p q ≡ true) qs) ds ps (same_of ds kept)
    (λ k d within. All-permutation (λ q. is_before (slice_index_or ds k d) q ≡ true) es qs (same_of es dropped) (λ j e inside. one k d within j e inside)) in
    record { kept = kept; before = before; order = in_order_is cs (ps ++ qs) (join_order ps qs (order_of ds kept) (order_of es dropped) before) same }

pub drop_same : (n : ℕ) (last : Candidate) (cs : List Candidate) → DistinctStarts cs → n ≤ passing_of_all (up_to last cs) → SameChoice (Some n) cs (up_to last cs)
drop_same n last cs distinct enough =
    let is = parts last cs distinct in
    let keep : Candidate → Bool = λ c. not (is_before last c) in
    let ds = up_to last cs in
    let ps = in_order ds in
    let qs = in_order (filter (is_before last) cs) in
    let all = sum_by-IsPermutation passing_of ds ps (same_of ds is.kept) in
    record {
      list =
          ap (filter has_share) (shares_of_order (Some n) ds is.kept)
          ∙ sym (kept_shares n ps qs is.before (omega (arith, all, enough)))
          ∙ ap (λ cs. filter has_share (with_shares (Some n) cs)) (sym is.order)
          ∙ ap (filter has_share) (sym (shares_of_order (Some n) cs distinct));
      taken = omega (arith, taken_is n ds is.kept, taken_is n cs distinct, enough, sum_by-filter_both keep (is_before last) (λ c. not_not (is_before last c)) passing_of cs);
    }

-- where nothing is left, no candidate has a share
pub nothing_left : (cs : List Candidate) → DistinctStarts cs → SameChoice (Some 0) cs []
nothing_left cs distinct =
    let f = with_share (Some 0) (in_order cs) in
    let none : All (λ c. has_share c ≡ false) (map f (in_order cs)) = All-map (λ c. has_share c ≡ false) f (in_order cs)
    (λ k d within. let r = f (slice_index_or (in_order cs) k d) in let no : r.share ≡ 0 = omega arith in ap (λ n. nat_lt 0 n) no) in
    record {
      list = sym (ap (filter has_share) (shares_of_order (Some 0) cs distinct) ∙ none_pass has_share (map f (in_order cs)) none);
      taken = omega (arith, taken_is 0 cs distinct);
    }
