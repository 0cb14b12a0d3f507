-- The lines of a body.
use Rattle.std.specs.Prelude.{ℕ, ◌+◌, ◌-◌, ◌%◌, Bool, false, ◌&&◌, ◌==◌, nat_lt, List, [], ◌∷◌, ◌++◌, codes, Option, Some, None, Result, Ok, Err, is_none, if◌then◌else◌}
use Rattle.std.specs.Option.{ok_or}
use Rattle.damon_types.specs.declared.range.RangeSpec.{RangeSpec}
use Rattle.damon_types.specs.declared.scheme.SlotChange.{SlotChange}
use Rattle.damon_types.specs.declared.scheme.Version.{Version}
use Rattle.damon_types.specs.declared.scheme.Version.TheVariants.{One, Two}
use Rattle.damon_types.specs.declared.space.TheConstants.{PAGE_SIZE}
use Rattle.damon_types.specs.declared.space.Target.{Target}
use Rattle.damon_types.specs.Space.{page_of}
use Rattle.line_text.specs.Parts.{two_of, three_of}
use Rattle.live_commit.specs.Commit.{CommitValue}
use Rattle.script_lines.specs.declared.kind.ScriptKind.{ScriptKind}
use Rattle.script_lines.specs.declared.kind.ScriptKind.TheVariants.{Word, Form, Limit, Outside}
use Rattle.script_lines.specs.declared.part.Part.{Part}
use Rattle.script_lines.specs.declared.part.Part.TheVariants.{Attrs, Range, Slot, Metric, Cost}
use Rattle.script_lines.specs.Command.{CommandValue, Touch, Sweep, Step, Arm, Finish, Show}
use Rattle.script_lines.specs.Fields.{attrs_in, cost_in, range_in}
use Rattle.script_lines.specs.Head.{limited}
use Rattle.script_lines.specs.Keys.{scheme_in}
use Rattle.script_lines.specs.Refusal.{◌>>=◌, only_if}
use Rattle.script_lines.specs.Words.{alone, arguments, begins_with, byte_address, number_8, number_32, one_word}

-- `touch TARGET ADDRESS`: the page that holds the byte
abbrev pub touch_line : List Target → List ℕ → Result CommandValue ScriptKind
touch_line space line = do
  words ← arguments (codes "touch") line
  fields ← ok_or (two_of words) Form
  target ← number_32 fields.0
  addr ← byte_address fields.1
  page ← ok_or (page_of space target addr) Outside
  Ok (Touch page)

-- whether two addresses are those of a sweep: whole pages, the first below the second
abbrev pub are_swept : ℕ → ℕ → Bool
are_swept from to = (from % PAGE_SIZE == 0) && ((to % PAGE_SIZE == 0) && nat_lt from to)

-- `sweep TARGET FROM TO`: the pages of the target from the first address to before the second
abbrev pub sweep_line : List Target → List ℕ → Result CommandValue ScriptKind
sweep_line space line = do
  words ← arguments (codes "sweep") line
  fields ← ok_or (three_of words) Form
  target ← number_32 fields.0
  from ← byte_address fields.1
  to ← byte_address fields.2
  whole ← only_if (are_swept from to) Limit (tt {0})
  first ← ok_or (page_of space target from) Outside
  last ← ok_or (page_of space target (to - PAGE_SIZE)) Outside
  Ok (Sweep first (last + 1))

-- `step TIMES`
abbrev pub step_line : List ℕ → Result CommandValue ScriptKind
step_line line = do
  times ← arguments (codes "step") line >>= one_word >>= number_32 >>= limited 1 1000000
  Ok (Step times)

-- a line of one word that says a command
abbrev pub word_line : List ℕ → CommandValue → List ℕ → Result CommandValue ScriptKind
word_line word command line = alone word line >>= λ _. Ok command

-- the command of a line, but for a commit, which has more than one
abbrev pub command_line : List Target → List ℕ → Result CommandValue ScriptKind
command_line space line =
    if begins_with (codes "touch") line then touch_line space line
    else if begins_with (codes "sweep") line then sweep_line space line
    else if begins_with (codes "step") line then step_line line
    else if begins_with (codes "arm") line then word_line (codes "arm") Arm line
    else if begins_with (codes "finish") line then word_line (codes "finish") Finish line
    else word_line (codes "show") Show line

-- a commit with no part yet
abbrev pub no_commit : CommitValue
no_commit = record { attrs = None; ranges = None; slot = None; metric = None; cost = None }

-- `drop SLOT`
abbrev pub drop_line : List ℕ → Result SlotChange ScriptKind
drop_line line = do
  slot ← arguments (codes "drop") line >>= one_word >>= number_8
  Ok (record { slot = slot; scheme = None })

-- `scheme SLOT ACTION KEYS`, of which only the form is checked
abbrev pub change_line : Version → List ℕ → Result SlotChange ScriptKind
change_line version line = do
  said ← arguments (codes "scheme") line >>= scheme_in version
  Ok (record { slot = said.0; scheme = Some said.1 })

-- the ranges of a commit with one more
abbrev pub with_range : Option (List RangeSpec) → RangeSpec → Option (List RangeSpec)
with_range None range = Some (range ∷ [])
with_range (Some ranges) range = Some (ranges ++ range ∷ [])

-- whether a cost may still come in a commit: in version Two, and only one
abbrev pub wants_cost : Version → CommitValue → Bool
wants_cost One c = false
wants_cost Two c = is_none c.cost

-- whether a metric may still come: before a metric and a cost
abbrev pub wants_metric : CommitValue → Bool
wants_metric c = is_none c.metric && is_none c.cost

-- whether a slot change may still come: before a slot change, a metric and a cost
abbrev pub wants_slot : CommitValue → Bool
wants_slot c = is_none c.slot && wants_metric c

-- whether attributes may still come: before all else
abbrev pub wants_attrs : CommitValue → Bool
wants_attrs c = is_none c.attrs && (is_none c.ranges && wants_slot c)

-- the part that a line of a commit says, which is not its last
abbrev pub part_line : Version → CommitValue → List ℕ → Result Part ScriptKind
part_line version c line =
    if begins_with (codes "attrs") line && wants_attrs c then (arguments (codes "attrs") line >>= attrs_in >>= λ attrs. Ok (Attrs attrs))
    else if begins_with (codes "range") line && wants_slot c then (arguments (codes "range") line >>= range_in >>= λ range. Ok (Range range))
    else if begins_with (codes "scheme") line && wants_slot c then (change_line version line >>= λ change. Ok (Slot change))
    else if begins_with (codes "drop") line && wants_slot c then (drop_line line >>= λ change. Ok (Slot change))
    else if begins_with (codes "metric") line && wants_metric c then (arguments (codes "metric") line >>= one_word >>= number_32 >>= λ value. Ok (Metric value))
    else if begins_with (codes "cost") line && wants_cost version c then (arguments (codes "cost") line >>= cost_in >>= λ cost. Ok (Cost cost))
    else Err Word

-- a commit with one more part
abbrev pub with_part : CommitValue → Part → CommitValue
with_part c (Attrs attrs) = record c { attrs = Some attrs }
with_part c (Range range) = record c { ranges = with_range c.ranges range }
with_part c (Slot change) = record c { slot = Some change }
with_part c (Metric value) = record c { metric = Some value }
with_part c (Cost cost) = record c { cost = Some cost }
