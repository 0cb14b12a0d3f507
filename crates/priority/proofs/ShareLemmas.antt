-- The shares of candidates.
use Rattle.std.proofs.Common.{◌≡◌, ℕ, zero, suc, ◌<◌, ◌≤◌, Bool, true, false, cond, List, [], ◌∷◌, Option, Some, None, length, map, take, refl, sym, ap, ◌∙◌, subst, arith}
use Rattle.std.specs.Prelude.{slice_index_or, filter, sum_by, All, IsPermutation}
use Rattle.std.proofs.lemmas.List.{length-map, get_or-map}
use Rattle.std.proofs.lemmas.List.Elements.{All-map}
use Rattle.std.proofs.lemmas.List.Sorted.{IsPermutation-map, sum_by-IsPermutation}
use Rattle.std.proofs.lemmas.List.Sums.{sum_by-cons}
use Rattle.priority.specs.declared.candidates.Candidate.{Candidate}
use Rattle.priority.specs.Candidates.{starts}
use Rattle.priority.specs.Order.{is_before, InPriority}
use Rattle.priority.specs.Share.{share_after, with_share, with_shares}
use Rattle.priority.proofs.OrderLemmas.{before_once, before_itself}

pub none_pass : {X : Type 0} (p : X → Bool) (xs : List X) → ((k : ℕ) (d : X) → k < length xs → p (slice_index_or xs k d) ≡ false) → filter p xs ≡ []
none_pass p [] none = refl
none_pass p (x ∷ xs) none = rw (none 0 x (omega arith)) (none_pass p xs (λ k d within. none (suc k) d (omega (arith, within))))

-- in priority order, the candidates before one are those in front of it
pub front_is : (cs : List Candidate) (i : ℕ) (d : Candidate) → InPriority cs → i < length cs → filter (λ s. is_before s (slice_index_or cs i d)) cs ≡ take i cs
front_is [] i d ordered within = absurd (omega (arith, within))
front_is (c ∷ cs) zero d ordered within =
    rw (before_itself c) (none_pass (λ s. is_before s c) cs (λ k e more. before_once c (slice_index_or cs k e) (ordered 0 (suc k) e (omega arith) (omega (arith, more)))))
front_is (c ∷ cs) (suc i) d ordered within =
    let first : is_before c (slice_index_or cs i d) ≡ true = ordered 0 (suc i) d (omega arith) within in
    rw first (ap (λ xs. c ∷ xs) (front_is cs i d (λ j k e before more. ordered (suc j) (suc k) e (omega (arith, before)) (omega (arith, more))) (omega (arith, within))))

-- so its share is what they leave
pub share_is : (left : Option ℕ) (cs : List Candidate) (i : ℕ) (d : Candidate) → InPriority cs → i < length cs → (share_after left (sum_by (λ (s : Candidate). s.passing) (filter (λ s. is_before s (slice_index_or cs i d)) cs)) (slice_index_or cs i d).passing) ≡ share_after left (sum_by (λ s. s.passing) (take i cs)) (slice_index_or cs i d).passing
share_is left cs i d ordered within = ap (λ front. share_after left (sum_by (λ (s : Candidate). s.passing) front) (slice_index_or cs i d).passing) (front_is cs i d ordered within)

-- a share is at most the passing pages
pub share_fits : (left : Option ℕ) (before passing : ℕ) → share_after left before passing ≤ passing
share_fits None before passing = omega arith
share_fits (Some n) before passing = omega arith

pub shares_fit : (left : Option ℕ) (cs : List Candidate) → All (λ c. c.share ≤ c.passing) (with_shares left cs)
shares_fit left cs = All-map (λ (c : Candidate). c.share ≤ c.passing) (with_share left cs) cs (λ k d within. share_fits left _ _)

-- shares change no start
pub starts_same : (left : Option ℕ) (all cs : List Candidate) → starts (map (with_share left all) cs) ≡ starts cs
starts_same left all [] = refl
starts_same left all (c ∷ cs) = ap (λ ns. c.start ∷ ns) (starts_same left all cs)

pub starts_shares : (left : Option ℕ) (cs : List Candidate) → starts (with_shares left cs) ≡ starts cs
starts_shares left cs = starts_same left cs cs

-- the passing pages of all candidates that come before one
abbrev pub passing_before : List Candidate → Candidate → ℕ
passing_before cs r = sum_by (λ s. s.passing) (filter (λ s. is_before s r) cs)

-- the same, as a sum over all candidates
abbrev pub counted : Candidate → Candidate → ℕ
counted r s = cond (is_before s r) s.passing 0

pub before_is : (cs : List Candidate) (r : Candidate) → passing_before cs r ≡ sum_by (counted r) cs
before_is [] r = refl
before_is (c ∷ cs) r = by (is_before c r) refl (before_is cs r)
  where
    by : (v : Bool) → is_before c r ≡ v → passing_before cs r ≡ sum_by (counted r) cs → sum_by (λ s. s.passing) (cond v (c ∷ filter (λ s. is_before s r) cs) (filter (λ s. is_before s r) cs)) ≡ sum_by (counted r) (c ∷ cs)
    by true is rest = omega (arith, sum_by-cons (λ (s : Candidate). s.passing) c (filter (λ s. is_before s r) cs), sum_by-cons (counted r) c cs, ap (λ v. cond v c.passing 0) is, rest)
    by false is rest = omega (arith, sum_by-cons (counted r) c cs, ap (λ v. cond v c.passing 0) is, rest)

-- the order of a list makes no difference for the shares
share_same : (left : Option ℕ) (cs ds : List Candidate) (r : Candidate) → IsPermutation cs ds → with_share left cs r ≡ with_share left ds r
share_same left cs ds r same = ap (λ n. record r { share = share_after left n r.passing }) (before_is cs r ∙ sym (sum_by-IsPermutation (counted r) cs ds same) ∙ sym (before_is ds r))

map_same : {X Y : Type 0} (f g : X → Y) (xs : List X) → ((x : X) → f x ≡ g x) → map f xs ≡ map g xs
map_same f g [] same = refl
map_same f g (x ∷ xs) same = ap (λ y. y ∷ map f xs) (same x) ∙ ap (λ ys. g x ∷ ys) (map_same f g xs same)

pub shares_same : (left : Option ℕ) (cs ds : List Candidate) → IsPermutation cs ds → IsPermutation (with_shares left cs) (with_shares left ds)
shares_same left cs ds same =
    subst (λ ys. IsPermutation (with_shares left cs) ys) (map_same (with_share left cs) (with_share left ds) ds (λ r. share_same left cs ds r same))
    (IsPermutation-map (with_share left cs) cs ds same)

-- shares change no order
pub order_same : (left : Option ℕ) (cs : List Candidate) → InPriority cs → InPriority (with_shares left cs)
order_same left cs ordered i j d before within =
    let f = with_share left cs in
    let inside : j < length cs = omega (arith, within, length-map cs f) in
    let one = get_or-map f cs i d d (omega (arith, before, inside)) in
    let next = get_or-map f cs j d d inside in
    rw (one, next) (ordered i j d before inside)
