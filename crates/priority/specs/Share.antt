-- The shares of candidates: how many of their passing pages are taken.
use Rattle.std.specs.Prelude.{ℕ, Bool, ◌-◌, min, nat_lt, List, map, filter, sum_by, Option, Some, None}
use Rattle.priority.specs.declared.candidates.Candidate.{Candidate}
use Rattle.priority.specs.Order.{is_before}

-- How many of `passing` pages are taken where `before` others come first: as many as these others leave, or all where there is
-- no quota.
abbrev pub share_after : Option ℕ → ℕ → ℕ → ℕ
share_after None before passing = passing
share_after (Some left) before passing = min passing (left - before)

-- one of the candidates with its share of what is left of a quota, where the passing pages of all candidates before it come first
abbrev pub with_share : Option ℕ → List Candidate → Candidate → Candidate
with_share left cs r = record r { share = share_after left (sum_by (λ s. s.passing) (filter (λ s. is_before s r) cs)) r.passing }

-- the candidates, each with its share
abbrev pub with_shares : Option ℕ → List Candidate → List Candidate
with_shares left cs = map (with_share left cs) cs

-- whether a page of a candidate is taken
abbrev pub has_share : Candidate → Bool
has_share c = nat_lt 0 c.share
