-- A line that says something is read as what it says.
use Rattle.std.specs.Prelude.{◌≡◌, ℕ, ◌^◌, ◌<◌, ◌≤◌, true, false, List, [], ◌∷◌, ◌++◌, length, Some, Ok, codes}
use Rattle.std.specs.Fmt.{decimal}
use Rattle.damon_types.specs.declared.attrs.Attrs.{Attrs}
use Rattle.damon_types.specs.declared.range.RangeSpec.{RangeSpec}
use Rattle.damon_types.specs.declared.scheme.Scheme.{Scheme}
use Rattle.damon_types.specs.declared.scheme.SlotChange.{SlotChange}
use Rattle.damon_types.specs.declared.scheme.Version.{Version}
use Rattle.damon_types.specs.declared.space.Target.{Target}
use Rattle.damon_types.specs.Attrs.{checked_attrs}
use Rattle.damon_types.specs.Scheme.{checked_in}
use Rattle.damon_types.specs.Space.{checked}
use Rattle.live_commit.specs.declared.setup.TheConstants.{MAX_CAP, MAX_UNIT, MIN_CAP}
use Rattle.live_commit.specs.Commit.{CommitValue}
use Rattle.target_ranges.specs.Checked.{checked_next}
use Rattle.script_lines.specs.declared.part.Part.{Part}
use Rattle.script_lines.specs.declared.setup.Frame.{Frame}
use Rattle.script_lines.specs.declared.blocks.TheConstants.{MAX_PASSES}
use Rattle.script_lines.specs.Blocks.{passes_line}
use Rattle.script_lines.specs.Body.{command_line, part_line}
use Rattle.script_lines.specs.Command.{CommandValue}
use Rattle.script_lines.specs.Fits.{FitsAttrs, FitsRange}
use Rattle.script_lines.specs.Head.{attrs_line, cap_line, is_changed, range_line, scheme_line, seed_line, target_line, unit_line}
use Rattle.script_lines.specs.Laws.{GivesScheme, IsCommand, IsPart, may_come}
use Rattle.script_lines.specs.Spelling.{spelled_attrs, spelled_range, spelled_target}

-- Each line of a script, where what it says is within its limits, is read as what it says.
pub record LinesReadBack : Type 0 where
  pub seed : (n : ℕ) → n < 2 ^ 64 → seed_line (codes "seed " ++ decimal n) ≡ Ok n
  pub unit : (n : ℕ) → 1 ≤ n → n ≤ MAX_UNIT → unit_line (codes "unit " ++ decimal n) ≡ Ok n
  pub cap : (n : ℕ) → MIN_CAP ≤ n → n ≤ MAX_CAP → cap_line (codes "cap " ++ decimal n) ≡ Ok n
  pub attrs :
      (cap : ℕ) (a : Attrs) → FitsAttrs a → checked_attrs a ≡ Ok tt → a.max ≤ cap
      → attrs_line cap (spelled_attrs a) ≡ Ok a
  pub target :
      (before : List Target) (t : Target) → checked (before ++ t ∷ []) ≡ Ok tt
      → target_line before (spelled_target t) ≡ Ok t
  pub range :
      (f : Frame) (targets : List Target) (before : List RangeSpec) (r : RangeSpec) → FitsRange r
      → checked_next targets f.unit f.cap before r ≡ Ok tt → length before < f.attrs.max
      → range_line f targets before (spelled_range r) ≡ Ok r
  pub scheme :
      (version : Version) (before : List SlotChange) (line : List ℕ) (change : SlotChange) (scheme : Scheme)
      → GivesScheme version line change → change.scheme ≡ Some scheme
      → checked_in version change.slot scheme ≡ Ok tt → is_changed change.slot before ≡ false
      → scheme_line version before line ≡ Ok change
  pub passes : (n : ℕ) → 1 ≤ n → n ≤ MAX_PASSES → passes_line (codes "passes " ++ decimal n) ≡ Ok n
  pub command :
      (space : List Target) (line : List ℕ) (command : CommandValue)
      → IsCommand space line command → command_line space line ≡ Ok command
  pub part :
      (version : Version) (before : CommitValue) (line : List ℕ) (part : Part) → may_come version before part ≡ true
      → IsPart version line part → part_line version before line ≡ Ok part
