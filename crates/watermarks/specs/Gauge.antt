-- Gauges, as contracts see them.
use Rattle.std.specs.Prelude.{◌≡◌, ℕ, Bool, List, Option}
use Rattle.damon_types.specs.declared.scheme.Marks.{Marks}
use Rattle.watermarks.specs.Active.{is_active}

-- the watermarks of a slot, and whether it is active
pub record GaugeValue : Type 0 where
  pub marks : Option Marks
  pub active : Bool

-- the gauge says whether a slot with its watermarks is active after these metrics
abbrev pub StandsFor : GaugeValue → List ℕ → Type 0
StandsFor g metrics = g.active ≡ is_active g.marks metrics
