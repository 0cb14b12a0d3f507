-- A candidate such that it and those before it have enough passing pages.
use Rattle.std.proofs.Common.{◌≡◌, ◌⊎◌, inl, inr, ℕ, ◌+◌, ◌<◌, ◌≤◌, Bool, true, false, cond, List, [], ◌∷◌, ◌++◌, Option, Some, None, take, drop, refl, sym, ap, ◌∙◌, arith}
use Rattle.std.specs.Prelude.{slice_index_or, filter, not, nat_le, ◌==◌, sum_by, All, if◌then◌else◌}
use Rattle.std.proofs.lemmas.Bool.{cases_lt}
use Rattle.std.proofs.lemmas.Bool.Decides.{nat_tests}
use Rattle.std.proofs.lemmas.List.Elements.{All-head, All-push, All-tail, All-weaker}
use Rattle.std.proofs.lemmas.List.Sums.{sum_by-cons, sum_by-le-sum_by, sum_by-take-drop}
use Rattle.priority.specs.declared.candidates.Candidate.{Candidate}
use Rattle.priority.specs.Kept.{later_of, passing_from, passing_of_all, up_to}
use Rattle.priority.specs.Order.{is_before}
use Rattle.priority.proofs.OrderLemmas.{before_itself, before_once}

-- the passing pages of a candidate with this score
abbrev pub with_score : ℕ → Candidate → ℕ
with_score score c = if c.score == score then c.passing else 0

abbrev above : ℕ → Candidate → ℕ
above score c = if nat_le (score + 1) c.score then c.passing else 0

abbrev kept : Candidate → Candidate → ℕ
kept last c = if not (is_before last c) then c.passing else 0

sum_filter : (f : Candidate → ℕ) (p : Candidate → Bool) (cs : List Candidate) → sum_by f (filter p cs) ≡ sum_by (λ c. if p c then f c else 0) cs
sum_filter f p [] = refl
sum_filter f p (c ∷ cs) = by (p c) refl (sum_filter f p cs)
  where
    g : Candidate → ℕ
    g x = if p x then f x else 0

    by : (v : Bool) → p c ≡ v → sum_by f (filter p cs) ≡ sum_by (λ x. if p x then f x else 0) cs → sum_by f (cond v (c ∷ filter p cs) (filter p cs)) ≡ sum_by (λ x. if p x then f x else 0) (c ∷ cs)
    by true is rest = omega (arith, sum_by-cons f c (filter p cs), sum_by-cons (λ x. if p x then f x else 0) c cs, ap (λ v. if v then f c else 0) is, rest)
    by false is rest = omega (arith, sum_by-cons (λ x. if p x then f x else 0) c cs, ap (λ v. if v then f c else 0) is, rest)

sums_within : (f g h : Candidate → ℕ) (cs : List Candidate) → All (λ c. f c + g c ≤ h c) cs → sum_by f cs + sum_by g cs ≤ sum_by h cs
sums_within f g h [] all = omega arith
sums_within f g h (c ∷ cs) all =
    let Fits : Candidate → Type 0 = λ x. f x + g x ≤ h x in
    omega (arith, sum_by-cons f c cs, sum_by-cons g c cs, sum_by-cons h c cs, All-head Fits c cs all, sums_within f g h cs (All-tail Fits c cs all))

higher_kept : (last c : Candidate) → above last.score c ≤ kept last c
higher_kept last c = by (cases_lt last.score c.score)
  where
    by : (last.score < c.score) ⊎ (c.score ≤ last.score) → above last.score c ≤ kept last c
    by (inl more) =
        let before : is_before last c ≡ false = grind (arith, nat_tests) in
        let test : nat_le (last.score + 1) c.score ≡ true = grind (arith, nat_tests) in
        omega (arith, ap (λ v. if v then c.passing else 0) test, ap (λ v. if not v then c.passing else 0) before)
    by (inr less) =
        let test : nat_le (last.score + 1) c.score ≡ false = grind (arith, nat_tests) in
        omega (arith, ap (λ v. if v then c.passing else 0) test)

all_kept : (last c : Candidate) → (c.score ≡ last.score → is_before last c ≡ false) → with_score last.score c + above last.score c ≤ kept last c
all_kept last c seen = by (cases_lt last.score c.score) (cases_lt c.score last.score)
  where
    by : (last.score < c.score) ⊎ (c.score ≤ last.score) → (c.score < last.score) ⊎ (last.score ≤ c.score) → with_score last.score c + above last.score c ≤ kept last c
    by (inl more) other =
        let test : (c.score == last.score) ≡ false = grind (arith, nat_tests) in
        omega (arith, ap (λ v. if v then c.passing else 0) test, higher_kept last c)
    by (inr most) (inl less) =
        let test : (c.score == last.score) ≡ false = grind (arith, nat_tests) in
        omega (arith, ap (λ v. if v then c.passing else 0) test, higher_kept last c)
    by (inr most) (inr least) =
        let equal : c.score ≡ last.score = omega (arith, most, least) in
        let high : nat_le (last.score + 1) c.score ≡ false = grind (arith, nat_tests) in
        let test : (c.score == last.score) ≡ true = grind (arith, nat_tests) in
        omega (arith, ap (λ v. if v then c.passing else 0) test, ap (λ v. if v then c.passing else 0) high, ap (λ v. if not v then c.passing else 0) (seen equal))

-- none of the candidates of its score comes after it
abbrev pub IsLatest : Candidate → Candidate → Type 0
IsLatest last c = c.score ≡ last.score → is_before last c ≡ false

pub enough_kept : (last : Candidate) (cs : List Candidate) (i : ℕ) → All (IsLatest last) (take i cs) → sum_by (with_score last.score) (take i cs) + passing_from cs (last.score + 1) ≤ passing_of_all (up_to last cs)
enough_kept last cs i seen =
    let front = sums_within (with_score last.score) (above last.score) (kept last) (take i cs) (λ k d within. all_kept last (slice_index_or (take i cs) k d) (seen k d within)) in
    let back = sum_by-le-sum_by (above last.score) (kept last) (drop i cs) (higher_kept last) in
    let whole = sum_filter (λ (c : Candidate). c.passing) (λ c. not (is_before last c)) cs in
    omega (arith, front, back, whole, sum_by-take-drop (above last.score) cs i, sum_by-take-drop (kept last) cs i)

-- ---- the walk that finds it

-- what holds of the latest candidate of a score among some
abbrev pub IsLatestOf : ℕ → List Candidate → Option Candidate → Type 0
IsLatestOf score cs None = All (λ c. c.score ≡ score → ⊥) cs
IsLatestOf score cs (Some last) = (last.score ≡ score) × All (IsLatest last) cs

-- one more candidate of another score
pub latest_skip : (score : ℕ) (cs : List Candidate) (c : Candidate) (o : Option Candidate) → (c.score ≡ score → ⊥) → IsLatestOf score cs o → IsLatestOf score (cs ++ c ∷ []) o
latest_skip score cs c None differ is = All-push (λ x. x.score ≡ score → ⊥) cs c is differ
latest_skip score cs c (Some last) differ is = (is.0, All-push (IsLatest last) cs c is.1 (λ same. absurd (differ (same ∙ is.0))))

none_later : (c last x : Candidate) → is_before last x ≡ false → is_before c last ≡ false → is_before c x ≡ false
none_later c last x one next = grind (arith, nat_tests)

-- one more candidate of this score
pub latest_step : (score : ℕ) (cs : List Candidate) (c : Candidate) (o : Option Candidate) → c.score ≡ score → IsLatestOf score cs o → IsLatestOf score (cs ++ c ∷ []) (Some (later_of o c))
latest_step score cs c None same is =
    (same, All-push (IsLatest c) cs c (All-weaker (λ x. x.score ≡ score → ⊥) (IsLatest c) (λ x none equal. absurd (none (equal ∙ same))) cs is) (λ equal. before_itself c))
latest_step score cs c (Some last) same is = by (is_before c last) refl
  where
    by : (v : Bool) → is_before c last ≡ v → IsLatestOf score (cs ++ c ∷ []) (Some (if v then last else c))
    by true test = (is.0, All-push (IsLatest last) cs c is.1 (λ equal. before_once c last test))
    by false test =
        (same, All-push (IsLatest c) cs c (All-weaker (IsLatest last) (IsLatest c) (λ x latest equal. none_later c last x (latest (equal ∙ same ∙ sym is.0)) test) cs is.1) (λ equal. before_itself c))

pub found : (cs : List Candidate) (i score left from used : ℕ) (last : Candidate) → IsLatestOf score (take i cs) (Some last) → used ≡ sum_by (with_score score) (take i cs) → from ≡ passing_from cs (score + 1) → left ≤ used + from → left ≤ passing_of_all (up_to last cs)
found cs i score left from used last is total rest enough =
    let one = enough_kept last cs i is.1 in
    omega (arith, one, total, rest, enough, ap (λ s. sum_by (with_score s) (take i cs)) is.0, ap (λ s. passing_from cs (s + 1)) is.0)

pub at_score : (score : ℕ) (c : Candidate) → c.score ≡ score → with_score score c ≡ c.passing
at_score score c same = let test : (c.score == score) ≡ true = grind (arith, nat_tests) in ap (λ v. if v then c.passing else 0) test

pub off_score : (score : ℕ) (c : Candidate) → (c.score ≡ score → ⊥) → with_score score c ≡ 0
off_score score c differ = let test : (c.score == score) ≡ false = grind (arith, nat_tests) in ap (λ v. if v then c.passing else 0) test
