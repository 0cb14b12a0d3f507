-- The fields of the lines of a setup and of a commit.
use Rattle.std.specs.Prelude.{ℕ, List, Result, Ok}
use Rattle.std.specs.Option.{ok_or}
use Rattle.damon_types.specs.declared.attrs.Attrs.{Attrs}
use Rattle.damon_types.specs.declared.range.RangeSpec.{RangeSpec}
use Rattle.damon_types.specs.declared.scheme.CostPart.{CostPart}
use Rattle.line_text.specs.Parts.{two_of, three_of, four_of}
use Rattle.script_lines.specs.declared.kind.ScriptKind.{ScriptKind}
use Rattle.script_lines.specs.declared.kind.ScriptKind.TheVariants.{Form}
use Rattle.script_lines.specs.Refusal.{◌>>=◌}
use Rattle.script_lines.specs.Words.{byte_address, number_8, number_32, number_64}

-- `MIN MAX AGGR`
abbrev pub attrs_in : List (List ℕ) → Result Attrs ScriptKind
attrs_in words = do
  fields ← ok_or (three_of words) Form
  least ← number_32 fields.0
  most ← number_32 fields.1
  aggr ← number_32 fields.2
  Ok (record { min = least; max = most; aggr = aggr })

-- `SLOT NANOSECONDS`
abbrev pub cost_in : List (List ℕ) → Result CostPart ScriptKind
cost_in words = do
  fields ← ok_or (two_of words) Form
  slot ← number_8 fields.0
  nanos ← number_64 fields.1
  Ok (record { slot = slot; nanos = nanos })

-- `TARGET FROM TO CLASS`
abbrev pub range_in : List (List ℕ) → Result RangeSpec ScriptKind
range_in words = do
  fields ← ok_or (four_of words) Form
  target ← number_32 fields.0
  from ← byte_address fields.1
  to ← byte_address fields.2
  class ← number_8 fields.3
  Ok (record { target = target; from = from; to = to; class = class })
