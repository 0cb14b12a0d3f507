-- The lines of a setup.
use Rattle.std.specs.Prelude.{ℕ, Bool, not, ◌&&◌, ◌==◌, nat_le, nat_lt, List, [], ◌∷◌, ◌++◌, length, codes, Some, Result, Ok, is_ok}
use Rattle.std.specs.List.{list_any}
use Rattle.std.specs.Option.{ok_or}
use Rattle.damon_types.specs.declared.attrs.Attrs.{Attrs}
use Rattle.damon_types.specs.declared.range.RangeSpec.{RangeSpec}
use Rattle.damon_types.specs.declared.scheme.SlotChange.{SlotChange}
use Rattle.damon_types.specs.declared.scheme.Version.{Version}
use Rattle.damon_types.specs.declared.space.Target.{Target}
use Rattle.damon_types.specs.Attrs.{checked_attrs}
use Rattle.damon_types.specs.Scheme.{checked_in}
use Rattle.damon_types.specs.Space.{checked}
use Rattle.line_text.specs.Parts.{two_of}
use Rattle.live_commit.specs.declared.setup.TheConstants.{MAX_CAP, MAX_UNIT, MIN_CAP}
use Rattle.live_commit.specs.Setup.{SetupValue}
use Rattle.target_ranges.specs.Checked.{checked_next}
use Rattle.target_ranges.specs.Made.{ranges_of}
use Rattle.script_lines.specs.declared.kind.ScriptKind.{ScriptKind}
use Rattle.script_lines.specs.declared.kind.ScriptKind.TheVariants.{Form, Limit, Attrs as BadAttrs, OverCap, Range as BadRange, RangesOverMax, Scheme as BadScheme, Repeated}
use Rattle.script_lines.specs.declared.setup.Frame.{Frame}
use Rattle.script_lines.specs.Fields.{attrs_in, range_in}
use Rattle.script_lines.specs.Keys.{scheme_in}
use Rattle.script_lines.specs.Refusal.{◌>>=◌, only_if, refused_as}
use Rattle.script_lines.specs.Words.{arguments, byte_address, number_32, number_64, one_word}

-- a number within its limits
abbrev pub limited : ℕ → ℕ → ℕ → Result ℕ ScriptKind
limited least most n = only_if (nat_le least n && nat_le n most) Limit n

-- `seed N`
abbrev pub seed_line : List ℕ → Result ℕ ScriptKind
seed_line line = arguments (codes "seed") line >>= one_word >>= number_64

-- `unit PAGES`
abbrev pub unit_line : List ℕ → Result ℕ ScriptKind
unit_line line = arguments (codes "unit") line >>= one_word >>= number_32 >>= limited 1 MAX_UNIT

-- `cap REGIONS`
abbrev pub cap_line : List ℕ → Result ℕ ScriptKind
cap_line line = arguments (codes "cap") line >>= one_word >>= number_32 >>= limited MIN_CAP MAX_CAP

-- `attrs MIN MAX AGGR`, where max is at most cap
abbrev pub attrs_line : ℕ → List ℕ → Result Attrs ScriptKind
attrs_line cap line = do
  words ← arguments (codes "attrs") line
  attrs ← attrs_in words
  sound ← refused_as BadAttrs (checked_attrs attrs)
  only_if (nat_le attrs.max cap) OverCap attrs

-- `BASE PAGES`
abbrev pub target_in : List (List ℕ) → Result Target ScriptKind
target_in words = do
  fields ← ok_or (two_of words) Form
  base ← byte_address fields.0
  pages ← number_32 fields.1
  Ok (record { base = base; pages = pages })

-- `target BASE PAGES`
abbrev pub one_target : List ℕ → Result Target ScriptKind
one_target line = arguments (codes "target") line >>= target_in

-- `target BASE PAGES` after other targets, with which it is a space
abbrev pub target_line : List Target → List ℕ → Result Target ScriptKind
target_line before line = do
  target ← one_target line
  only_if (is_ok (checked (before ++ target ∷ []))) Limit target

-- `range TARGET FROM TO CLASS` after other ranges: it is accepted after them, and they are fewer than max
abbrev pub range_line : Frame → List Target → List RangeSpec → List ℕ → Result RangeSpec ScriptKind
range_line f targets before line = do
  words ← arguments (codes "range") line
  range ← range_in words
  sound ← refused_as BadRange (checked_next targets f.unit f.cap before range)
  only_if (nat_lt (length before) f.attrs.max) RangesOverMax range

-- whether one of these changes is of this slot
abbrev pub is_changed : ℕ → List SlotChange → Bool
is_changed slot changes = list_any (λ c. c.slot == slot) changes

-- `scheme SLOT ACTION KEYS` after other schemes, each for a slot of its own
abbrev pub scheme_line : Version → List SlotChange → List ℕ → Result SlotChange ScriptKind
scheme_line version before line = do
  words ← arguments (codes "scheme") line
  said ← scheme_in version words
  sound ← refused_as BadScheme (checked_in version said.0 said.1)
  only_if (not (is_changed said.0 before)) Repeated (record { slot = said.0; scheme = Some said.1 })

-- the setup that these lines say
abbrev pub setup_said : Frame → List Target → List RangeSpec → List SlotChange → SetupValue
setup_said f targets ranges slots =
    record { version = f.version; space = targets; unit = f.unit; cap = f.cap; attrs = f.attrs; ranges = ranges_of targets ranges; slots = slots }
