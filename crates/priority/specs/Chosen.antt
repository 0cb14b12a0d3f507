-- What a choice amounts to.
use Rattle.std.specs.Prelude.{ℕ, min, Bool, nat_lt, List, map, filter, sum_by, Option}
use Rattle.std.specs.List.{list_any, reduce}
use Rattle.priority.specs.declared.candidates.Candidate.{Candidate}

-- the number of pages that are taken
abbrev pub taken_of : List Candidate → ℕ
taken_of cs = sum_by (λ c. c.share) cs

-- the least score of the candidates of which a page is taken, `None` where there are none
abbrev pub lowest_of : List Candidate → Option ℕ
lowest_of cs = reduce min (map (λ c. c.score) (filter (λ c. nat_lt 0 c.share) cs))

-- whether a passing page of a candidate is not taken
abbrev pub leaves_pages : List Candidate → Bool
leaves_pages cs = list_any (λ c. nat_lt c.share c.passing) cs
