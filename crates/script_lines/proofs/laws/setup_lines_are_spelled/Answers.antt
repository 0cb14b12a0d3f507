use Rattle.script_lines.proofs.SpellLines.{attrs_line-Ok, cap_line-Ok, one_target-Ok, passes_line-Ok, range_line-Ok, seed_line-Ok, target_line-Ok, unit_line-Ok}
use Rattle.script_lines.proofs.laws.setup_lines_are_spelled.Goals as goal

pub returns : goal.returns
returns c = record {
  seed = seed_line-Ok;
  unit = unit_line-Ok;
  cap = cap_line-Ok;
  attrs = attrs_line-Ok;
  target = one_target-Ok;
  targets = target_line-Ok;
  range = range_line-Ok;
  passes = passes_line-Ok;
}
