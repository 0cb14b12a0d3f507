-- What the steps of a choice keep. Only proofs need it.
use Rattle.std.specs.Prelude.{◌≡◌, ℕ, not, nat_le, List, filter, sum_by, Option, Some, None, if◌then◌else◌}
use Rattle.priority.specs.declared.candidates.Candidate.{Candidate}
use Rattle.priority.specs.Order.{is_before, in_order}
use Rattle.priority.specs.Share.{has_share, with_shares}
use Rattle.priority.specs.Chosen.{taken_of}

-- the passing pages of the candidates that score at least a number
abbrev pub passing_from : List Candidate → ℕ → ℕ
passing_from cs score = sum_by (λ c. if nat_le score c.score then c.passing else 0) cs

-- the candidates that do not come after one
abbrev pub up_to : Candidate → List Candidate → List Candidate
up_to last cs = filter (λ c. not (is_before last c)) cs

-- the passing pages of some candidates
abbrev pub passing_of_all : List Candidate → ℕ
passing_of_all cs = sum_by (λ c. c.passing) cs

-- of one that may be there and another, the one that comes later
abbrev pub later_of : Option Candidate → Candidate → Candidate
later_of None c = c
later_of (Some last) c = if is_before c last then last else c

-- the same candidates of both lists have a share, and the same number of pages is taken
pub record SameChoice (left : Option ℕ) (cs ds : List Candidate) : Type 0 where
  pub list : filter has_share (in_order (with_shares left ds)) ≡ filter has_share (in_order (with_shares left cs))
  pub taken : taken_of (with_shares left ds) ≡ taken_of (with_shares left cs)
