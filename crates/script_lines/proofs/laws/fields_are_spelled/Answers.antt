use Rattle.script_lines.proofs.SpellLines.{attrs_in-Ok, range_in-Ok}
use Rattle.script_lines.proofs.laws.fields_are_spelled.Goals as goal

pub returns : goal.returns
returns c = record { attrs = attrs_in-Ok; range = range_in-Ok }
