-- How many checks and hits a monitor has counted.
use Rattle.std.specs.Prelude.{ℕ, ◌+◌, ◌&&◌, ◌==◌, List, [], ◌∷◌, length, cond}
use Rattle.damon_core.specs.Note.{Note, checked, checks_of, finished}

-- how many checks of a pass were hits
abbrev pub pass_hits : List Note → ℕ → ℕ
pass_hits [] pass = 0
pass_hits (checked n k p hit ∷ earlier) pass = cond ((n == pass) && hit) 1 0 + pass_hits earlier pass
pass_hits (_ ∷ earlier) pass = pass_hits earlier pass

-- the checks of all finished passes
abbrev pub checks_made : List Note → ℕ
checks_made [] = 0
checks_made (finished n rows ∷ earlier) = length (checks_of earlier n) + checks_made earlier
checks_made (_ ∷ earlier) = checks_made earlier

-- the hits among them
abbrev pub hits_made : List Note → ℕ
hits_made [] = 0
hits_made (finished n rows ∷ earlier) = pass_hits earlier n + hits_made earlier
hits_made (_ ∷ earlier) = hits_made earlier
