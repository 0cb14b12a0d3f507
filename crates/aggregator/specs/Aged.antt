-- Ages: for how many aggregations the count of a row has changed little.
use Rattle.std.specs.Prelude.{ℕ, ◌+◌, ◌-◌, ◌^◌, Bool, ◌||◌, ◌==◌, false, not, nat_lt, min, List, map, if◌then◌else◌}
use Rattle.std.specs.Int.{abs_diff}
use Rattle.damon_types.specs.declared.row.Row.{Row}
use Rattle.damon_types.specs.declared.scheme.Version.{Version}
use Rattle.damon_types.specs.declared.scheme.Version.TheVariants.{One, Two}

-- the greatest age: the greatest number of 32 bits
abbrev pub max_age : ℕ
max_age = 2 ^ 32 - 1

-- whether exactly one of a count and the last count is 0: the row came into use, or fell out of it
abbrev pub came_or_went : ℕ → ℕ → Bool
came_or_went count last = if count == 0 then not (last == 0) else (last == 0)

-- in version Two a row that came into use, or fell out of it, begins anew
abbrev pub is_anew : Version → ℕ → ℕ → Bool
is_anew One count last = false
is_anew Two count last = came_or_went count last

-- a row gets age 0 where its count and last count differ by more than the threshold, and in version Two where exactly one
-- of them is 0; else its age rises by one, up to the greatest
abbrev pub aged_row : ℕ → Version → Row → Row
aged_row threshold version r = record r {
  age =
      if nat_lt threshold (abs_diff r.count r.last) || is_anew version r.count r.last
      then 0
      else min (r.age + 1) max_age;
}

-- each row is aged
abbrev pub aged : ℕ → Version → List Row → List Row
aged threshold version rows = map (aged_row threshold version) rows
