-- The clearing of counts at the end of an aggregation.
use Rattle.std.specs.Prelude.{List, map}
use Rattle.damon_types.specs.declared.row.Row.{Row}

-- the count of each row becomes its last count, and its count 0
abbrev pub cleared : List Row → List Row
cleared rows = map (λ (r : Row). record r { last = r.count; count = 0 }) rows
