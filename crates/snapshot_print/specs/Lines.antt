-- A report as lines of text.
use Rattle.std.specs.Prelude.{ℕ, List, ◌++◌, codes, length}
use Rattle.std.specs.List.{flat_map}
use Rattle.std.specs.Fmt.{decimal}
use Rattle.damon_types.specs.declared.space.Target.{Target}
use Rattle.damon_types.specs.declared.row.Row.{Row}
use Rattle.damon_core.specs.Report.{ReportValue}
use Rattle.damon_core.specs.State.{Core, row_count}
use Rattle.snapshot_print.specs.Commit.{answer_text}
use Rattle.snapshot_print.specs.Fields.{◌then◌, pages_part, phase_name}
use Rattle.snapshot_print.specs.Schemes.{choices_text, shown_slots}
use Rattle.snapshot_print.specs.Writing.{Writing}

-- the place of a row: its target and its pages
abbrev pub place_part : List Target → Row → List ℕ
place_part space r = codes "row " then decimal r.target then pages_part space r.start r.pages

-- the counts and the age of a row
abbrev pub count_part : Row → List ℕ
count_part r =
    codes " count=" then decimal r.count then codes " last=" then decimal r.last
    then codes " age=" then decimal r.age then codes "\n"

-- the line of a row
abbrev pub row_line : List Target → Row → List ℕ
row_line space r = place_part space r ++ count_part r

-- the lines of rows
abbrev pub row_lines : List Target → List Row → List ℕ
row_lines space rows = flat_map (row_line space) rows

-- the first line of a show
abbrev pub show_line : Core → List ℕ
show_line c =
    codes "show tick=" then decimal c.ticks then codes " phase=" then phase_name c.phase
    then codes " rows=" then decimal (row_count c) then codes "\n"

-- the first line of an aggregation: its tick, its threshold and the number of rows that it reported
abbrev pub aggregate_line : ReportValue → List ℕ
aggregate_line r =
    codes "aggregate tick=" then decimal r.tick then codes " threshold=" then decimal r.threshold
    then codes " rows=" then decimal (length r.rows) then codes "\n"

-- A report as text. A show writes its first line, the lines of the rows, and those of the set slots; an aggregation its first line,
-- the lines of the schemes that it served, in slot order and each with its runs, and the lines of the rows that it reported.
abbrev pub as_text : Writing
as_text = record {
  show = λ p. show_line p.core then row_lines p.core.space p.core.regions.rows then shown_slots 0 p.slots;
  aggregate =
      λ p. aggregate_line p.core.report then choices_text p.core.space p.slots p.core.report.runs p.core.report.choices
      then row_lines p.core.space p.core.report.rows;
  commit = λ tick answer. codes "commit tick=" then decimal tick then codes " " then answer_text answer then codes "\n";
  end =
      λ p. codes "end ticks=" then decimal p.core.ticks then codes " rows=" then decimal (row_count p.core)
      then codes " checks=" then decimal p.checks then codes " hits=" then decimal p.hits then codes "\n";
}
