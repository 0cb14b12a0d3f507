use Rattle.std.proofs.Common.{◌≡◌, ◌++◌, ◌-◌, length}
use Rattle.std.specs.Prelude.{flat_map}
use Rattle.std.specs.List.{range_with_len}
use Rattle.line_text.specs.Appended.{KeepsFront}
use Rattle.heat_report.specs.Text.{heat_line, heat_lines}
use Rattle.heat_report.proofs.text.append_heat_lines.Given as goal

abbrev pub invariant-loop-target : goal.invariant-loop-target
invariant-loop-target g l = record {
  text : l.out.items ++ flat_map (heat_line g.row.N l.tick l.rows.rows l.space) (range_with_len l.target (length l.space - l.target)) ≡ l.fn.out.items ++ heat_lines g.row.N l.tick l.rows.rows l.space;
  kept : KeepsFront l.fn.out.items l.out.items;
}
