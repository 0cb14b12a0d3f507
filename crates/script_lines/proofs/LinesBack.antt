-- Each line that says something is read as what it says.
use Rattle.script_lines.specs.ReadBack.{LinesReadBack}
use Rattle.script_lines.proofs.ReadCommands.{command_line-said, part_line-said}
use Rattle.script_lines.proofs.ReadLines.{attrs_line-spelled, cap_line-spelled, passes_line-spelled, range_line-spelled, scheme_line-spelled, seed_line-spelled, target_line-spelled, unit_line-spelled}

pub lines_read_back : LinesReadBack
lines_read_back = record {
  seed = seed_line-spelled;
  unit = unit_line-spelled;
  cap = cap_line-spelled;
  attrs = attrs_line-spelled;
  target = target_line-spelled;
  range = range_line-spelled;
  scheme = scheme_line-spelled;
  passes = passes_line-spelled;
  command = command_line-said;
  part = part_line-said;
}
