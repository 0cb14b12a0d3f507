-- Lists of candidates, as contracts see them.
use Rattle.std.specs.Prelude.{ℕ, ◌≤◌, ◌<◌, ◌^◌, List, length, map, All, nat_eq}
use Rattle.std.specs.List.{IsDistinct}
use Rattle.priority.specs.declared.candidates.Candidate.{Candidate}
use Rattle.priority.specs.declared.scoring.TheConstants.{MAX_SCORE}

-- candidates, and the number for which there is room
pub record CandidateList : Type 0 where
  pub list : List Candidate
  pub cap : ℕ

-- the first pages of the candidates
abbrev pub starts : List Candidate → List ℕ
starts cs = map (λ c. c.start) cs

-- no two candidates start at the same page
abbrev pub DistinctStarts : List Candidate → Type 0
DistinctStarts cs = IsDistinct nat_eq (starts cs)

-- a candidate has a score within its limit, and a page that passes
pub record IsCandidate (c : Candidate) : Type 0 where
  pub score : c.score ≤ MAX_SCORE
  pub passing : 1 ≤ c.passing

-- candidates within their limits, no two of which start at the same page
pub record AreCandidates (cs : List Candidate) : Type 0 where
  pub distinct : DistinctStarts cs
  pub each : All IsCandidate cs

-- the candidates fit within the capacity, which is reserved
pub record IsCandidateList (cs : List Candidate) (cap space : ℕ) : Type 0 where
  pub sound : AreCandidates cs
  pub room : length cs ≤ cap
  pub small : cap < 2 ^ 32
  pub reserved : cap ≤ space
