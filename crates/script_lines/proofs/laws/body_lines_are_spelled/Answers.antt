use Rattle.script_lines.proofs.SpellCommands.{command_line-Ok, part_line-Ok, sweep_line-pages, touch_line-page}
use Rattle.script_lines.proofs.SpellWords.{alone-Ok}
use Rattle.script_lines.proofs.laws.body_lines_are_spelled.Goals as goal

pub returns : goal.returns
returns c = record {
  words = alone-Ok;
  commands = command_line-Ok;
  touches = touch_line-page;
  sweeps = sweep_line-pages;
  parts = part_line-Ok;
}
