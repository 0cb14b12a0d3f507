-- The text of reports: heat tables, frequencies and working sets.
use Rattle.std.specs.Prelude.{ℕ, List, [], ◌++◌, length, flat_map, codes, Option, Some, None}
use Rattle.std.specs.List.{range_with_len}
use Rattle.std.specs.Fmt.{decimal}
use Rattle.damon_types.specs.declared.row.Row.{Row}
use Rattle.damon_types.specs.declared.space.Target.{Target}
use Rattle.damon_types.specs.RowPages.{working_set}
use Rattle.heat_report.specs.declared.sizes.Spread.{Spread}
use Rattle.heat_report.specs.Heat.{target_heats}
use Rattle.heat_report.specs.Freq.{freqs}
use Rattle.heat_report.specs.Sizes.{spread_of}

infixr 20 ◌then◌
-- one text and then another
abbrev pub ◌then◌ : List ℕ → List ℕ → List ℕ
a then b = a ++ b

-- numbers, each after a space
abbrev pub numbers : List ℕ → List ℕ
numbers ns = flat_map (λ n. codes " " ++ decimal n) ns

-- the line of a target: the heat of its n columns
abbrev pub heat_line : ℕ → ℕ → List Row → List Target → ℕ → List ℕ
heat_line n tick rows ts target =
    codes "heat " then decimal tick then codes " " then decimal target
    then numbers (target_heats rows ts target n) then codes "\n"

-- the lines of all targets in order
abbrev pub heat_lines : ℕ → ℕ → List Row → List Target → List ℕ
heat_lines n tick rows ts = flat_map (heat_line n tick rows ts) (range_with_len 0 (length ts))

-- the line of the frequencies
abbrev pub freq_line : ℕ → ℕ → List Row → List ℕ
freq_line tick aggr rows = codes "freq " then decimal tick then numbers (freqs aggr rows) then codes "\n"

-- the line of the working set
abbrev pub wss_line : ℕ → List Row → List ℕ
wss_line tick rows = codes "wss " then decimal tick then codes " " then decimal (working_set rows) then codes "\n"

-- the text of one report: its tick, its rows, the targets, and the passes of an aggregation; with n columns for each target
abbrev pub report_text : ℕ → ℕ → List Row → List Target → ℕ → List ℕ
report_text n tick rows ts aggr = heat_lines n tick rows ts then freq_line tick aggr rows then wss_line tick rows

-- the spread of the working sets
abbrev pub spread_part : Option Spread → List ℕ
spread_part None = []
spread_part (Some s) =
    codes " least=" then decimal s.least then codes " median=" then decimal s.median
    then codes " greatest=" then decimal s.greatest

-- the last line: the number of reports, and the spread of their working sets
abbrev pub last_line : List ℕ → List ℕ
last_line sizes = codes "all reports=" then decimal (length sizes) then spread_part (spread_of sizes) then codes "\n"
