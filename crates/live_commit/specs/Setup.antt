-- What a monitor is started with, and its limits.
use Rattle.std.specs.Prelude.{◌≡◌, ℕ, ◌≤◌, List, length, All, IsSome, Ok}
use Rattle.damon_types.specs.declared.range.TheConstants.{MAX_CLASS}
use Rattle.damon_types.specs.declared.space.Target.{Target}
use Rattle.damon_types.specs.declared.range.Range.{Range}
use Rattle.damon_types.specs.declared.scheme.Version.{Version}
use Rattle.damon_types.specs.declared.scheme.SlotChange.{SlotChange}
use Rattle.damon_types.specs.declared.attrs.Attrs.{Attrs}
use Rattle.damon_types.specs.Attrs.{IsAttrs}
use Rattle.damon_types.specs.Within.{AreWithin}
use Rattle.live_commit.specs.declared.setup.TheConstants.{MAX_CAP, MAX_UNIT, MIN_CAP}
use Rattle.live_commit.specs.Slots.{checked_slots}

-- the parts of a setup
pub record SetupValue : Type 0 where
  pub version : Version
  pub space : List Target
  pub unit : ℕ
  pub cap : ℕ
  pub attrs : Attrs
  pub ranges : List Range
  pub slots : List SlotChange

-- a setup within its limits
pub record IsSetup (v : SetupValue) : Type 0 where
  pub unit_some : 1 ≤ v.unit
  pub unit_most : v.unit ≤ MAX_UNIT
  pub cap_some : MIN_CAP ≤ v.cap
  pub cap_most : v.cap ≤ MAX_CAP
  pub attrs : IsAttrs v.attrs
  pub max_cap : v.attrs.max ≤ v.cap
  pub ranges_some : 1 ≤ length v.ranges
  pub ranges_most : length v.ranges ≤ v.attrs.max
  pub wide : All (λ g. v.unit ≤ g.pages) v.ranges
  pub classes : All (λ g. g.class ≤ MAX_CLASS) v.ranges
  pub within : AreWithin v.space v.ranges
  pub set : All (λ c. IsSome c.scheme) v.slots
  pub slots : checked_slots v.version v.slots ≡ Ok tt
