-- What holds of a commit that is accepted.
use Rattle.std.specs.Prelude.{◌≡◌, ◌<◌, ◌≤◌, List, length, Some, Ok}
use Rattle.damon_types.specs.declared.attrs.Attrs.{Attrs}
use Rattle.damon_types.specs.declared.range.RangeSpec.{RangeSpec}
use Rattle.damon_types.specs.declared.scheme.CostPart.{CostPart}
use Rattle.damon_types.specs.declared.scheme.Version.TheVariants.{Two}
use Rattle.damon_types.specs.declared.scheme.SlotChange.{SlotChange}
use Rattle.damon_types.specs.declared.scheme.TheConstants.{MAX_SLOT}
use Rattle.damon_types.specs.declared.space.Target.{Target}
use Rattle.damon_types.specs.Attrs.{IsAttrs}
use Rattle.target_ranges.specs.Checked.{checked_ranges}
use Rattle.live_commit.specs.declared.phase.Phase.{Phase}
use Rattle.live_commit.specs.declared.phase.Phase.TheVariants.{Clearing, Checking}
use Rattle.live_commit.specs.declared.view.View.{View}
use Rattle.live_commit.specs.Commit.{CommitValue}
use Rattle.live_commit.specs.Accepts.{max_after, ranges_after}

-- a commit is allowed in all phases but Clearing and Checking
abbrev pub AllowsCommit : Phase → Type 0
AllowsCommit (Clearing next) = ⊥
AllowsCommit (Checking next) = ⊥
AllowsCommit _ = Unit {0}

-- what holds of an accepted commit: of the phase, the new attributes, the new ranges, the number of ranges after it, and the slot
pub record IsAccepted (space : List Target) (v : View) (c : CommitValue) : Type 0 where
  pub phase : AllowsCommit v.phase
  pub attrs : (a : Attrs) → c.attrs ≡ Some a → IsAttrs a × (a.max ≤ v.cap)
  pub ranges :
      (specs : List RangeSpec) → c.ranges ≡ Some specs
      → (0 < length specs) × (checked_ranges space v.unit v.cap specs ≡ Ok tt)
  pub few : ranges_after c.ranges v.ranges ≤ max_after c.attrs v.max
  pub slot : (change : SlotChange) → c.slot ≡ Some change → change.slot ≤ MAX_SLOT
  pub cost : (part : CostPart) → c.cost ≡ Some part → (v.version ≡ Two) × (part.slot ≤ MAX_SLOT)
