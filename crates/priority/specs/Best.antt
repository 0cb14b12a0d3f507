-- The best choice: no other pages have a greater sum of scores than those that are taken.
use Rattle.std.specs.Prelude.{◌≡◌, ℕ, ◌*◌, ◌≤◌, ◌<◌, ◌⊎◌, List, map, sum, sum_by, zip, All, Option, Some, None, IfSome}
use Rattle.std.specs.List.{AllZip}
use Rattle.priority.specs.declared.candidates.Candidate.{Candidate}
use Rattle.priority.specs.Chosen.{taken_of, lowest_of}

-- a number of pages of each candidate: at most those that pass, and in all at most what is left of the quota
pub record IsChoice (left : Option ℕ) (cs : List Candidate) (numbers : List ℕ) : Type 0 where
  pub each : AllZip (λ c n. n ≤ c.passing) cs numbers
  pub within : IfSome left (λ most. sum numbers ≤ most)

-- the sum of the scores of these numbers of pages, where a page has the score of its candidate
abbrev pub sum_of_scores : List Candidate → List ℕ → ℕ
sum_of_scores cs numbers = sum_by (λ p. p.1 * p.0.score) (zip cs numbers)

-- the number of pages that are taken of each candidate
abbrev pub shares_of : List Candidate → List ℕ
shares_of cs = map (λ c. c.share) cs

-- the shares are a choice, and no choice has a greater sum of scores
pub record IsBest (left : Option ℕ) (cs : List Candidate) : Type 0 where
  pub choice : IsChoice left cs (shares_of cs)
  pub most : (numbers : List ℕ) → IsChoice left cs numbers → sum_of_scores cs numbers ≤ sum_of_scores cs (shares_of cs)

-- exactly `left` pages are taken, and a candidate with a page that is not taken scores at most the lowest score of those taken
pub record TakesHighest (left : ℕ) (cs : List Candidate) : Type 0 where
  pub taken : taken_of cs ≡ left
  pub low : All (λ c. c.share < c.passing → IfSome (lowest_of cs) (λ lowest. c.score ≤ lowest)) cs

-- A certificate that the shares are the best choice. Without a quota every passing page is taken; with one, every passing page
-- is, or the highest scores take all that is left.
abbrev pub IsCertified : Option ℕ → List Candidate → Type 0
IsCertified None cs = All (λ c. c.share ≡ c.passing) cs
IsCertified (Some left) cs = All (λ c. c.share ≡ c.passing) cs ⊎ TakesHighest left cs
