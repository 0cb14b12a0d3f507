-- Tables and texts, worked out by hand.
use Rattle.std.proofs.Common.{◌≡◌, List, [], ◌∷◌, ◌++◌, Some, None, codes, refl}
use Rattle.std.specs.Prelude.{IsNone}
use Rattle.std.specs.Fmt.{digits}
use Rattle.damon_types.specs.declared.row.Row.{Row}
use Rattle.damon_types.specs.declared.space.Target.{Target}
use Rattle.damon_types.specs.RowPages.{working_set}
use Rattle.heat_report.specs.Freq.{freqs}
use Rattle.heat_report.specs.Heat.{count_at, target_heats, target_total}
use Rattle.heat_report.specs.Sizes.{median, spread_of}
use Rattle.heat_report.specs.Text.{last_line, report_text}

-- a target of three pages and one of five
abbrev targets : List Target
targets = record { base = 0; pages = 3 } ∷ record { base = 65536; pages = 5 } ∷ []

-- pages 0 and 1 were accessed in two passes, page 2 in none, and pages 4 to 7 in three; no row holds page 3
abbrev rows : List Row
rows =
    record { target = 0; start = 0; pages = 2; count = 2; last = 0; age = 0 }
    ∷ record { target = 0; start = 2; pages = 1; count = 0; last = 0; age = 0 }
    ∷ record { target = 1; start = 4; pages = 4; count = 3; last = 0; age = 0 }
    ∷ []

page_of_no_row : count_at rows 3 ≡ 0
page_of_no_row = refl

-- the first column has page 0, and the second one has pages 1 and 2
heat_of_the_first : target_heats rows targets 0 2 ≡ 2 ∷ 2 ∷ []
heat_of_the_first = refl

-- the first column has pages 3 and 4, and the second one has pages 5 to 7
heat_of_the_second : target_heats rows targets 1 2 ≡ 3 ∷ 9 ∷ []
heat_of_the_second = refl

-- more columns than pages: some have no page
heat_of_eight_columns : target_heats rows targets 0 8 ≡ 0 ∷ 0 ∷ 2 ∷ 0 ∷ 0 ∷ 2 ∷ 0 ∷ 0 ∷ []
heat_of_eight_columns = refl

totals : target_total rows 1 ≡ 12
totals = refl

-- of three passes, a count of two is 6 tenths, and a count of three is 10
tenths_of_three : freqs 3 rows ≡ 1 ∷ 0 ∷ 0 ∷ 0 ∷ 0 ∷ 0 ∷ 2 ∷ 0 ∷ 0 ∷ 0 ∷ 4 ∷ []
tenths_of_three = refl

-- a count above the passes, as of an aggregation that had more, is 10 tenths
tenths_of_one : freqs 1 rows ≡ 1 ∷ 0 ∷ 0 ∷ 0 ∷ 0 ∷ 0 ∷ 0 ∷ 0 ∷ 0 ∷ 0 ∷ 6 ∷ []
tenths_of_one = refl

working_set_of_six : working_set rows ≡ 6
working_set_of_six = refl

spread_of_four : spread_of (4 ∷ 1 ∷ 3 ∷ 9 ∷ []) ≡ Some (record { least = 1; median = 3; greatest = 9 })
spread_of_four = refl

median_of_three : median (7 ∷ 7 ∷ 2 ∷ []) ≡ 7
median_of_three = refl

one_report : report_text 8 1 (record { target = 0; start = 0; pages = 1; count = 1; last = 0; age = 0 } ∷ []) (record { base = 0; pages = 1 } ∷ []) 1 ≡ codes "heat 1 0 0 0 0 0 0 0 0 1\nfreq 1 0 0 0 0 0 0 0 0 0 0 1\nwss 1 1\n"
unfolding digits
one_report = refl

last_of_one : last_line (1 ∷ []) ≡ codes "all reports=1 least=1 median=1 greatest=1\n"
unfolding digits
last_of_one = refl

last_of_none : last_line [] ≡ codes "all reports=0\n"
unfolding digits
last_of_none = refl
