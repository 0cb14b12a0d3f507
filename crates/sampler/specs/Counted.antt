-- The counts of rows after a pass.
use Rattle.std.specs.Prelude.{◌+◌, Bool, List, [], ◌∷◌, cond}
use Rattle.damon_types.specs.declared.row.Row.{Row}

-- a row with its count raised by one where its check was a hit
abbrev pub raised_row : Bool → Row → Row
raised_row hit r = record r { count = r.count + cond hit 1 0 }

-- each row by its check; rows without a check stay
abbrev pub raised : List Bool → List Row → List Row
raised [] rows = rows
raised (hit ∷ hits) [] = []
raised (hit ∷ hits) (r ∷ rs) = raised_row hit r ∷ raised hits rs
