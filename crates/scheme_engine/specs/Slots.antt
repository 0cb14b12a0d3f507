-- The slots that hold schemes.
use Rattle.std.specs.Prelude.{ℕ, [], Option, Some, None}
use Rattle.std.specs.Option.{option_map, option_and_then}
use Rattle.damon_types.specs.declared.scheme.Quota.{Quota}
use Rattle.damon_types.specs.declared.scheme.Scheme.{Scheme}
use Rattle.quota_charge.specs.declared.window.Window.{Window}
use Rattle.quota_charge.specs.declared.cost.Cost.{Cost}
use Rattle.quota_charge.specs.Cost.{more_nanos}
use Rattle.quota_charge.specs.Window.{turned}
use Rattle.watermarks.specs.Active.{after_metric, is_active}
use Rattle.watermarks.specs.Gauge.{GaugeValue}
use Rattle.scheme_engine.specs.declared.slot.SlotView.{SlotView}

-- The scheme of a slot, whether it is active, and its statistics: over its runs, the rows that matched, the pages that it was
-- applied to, and how often a passing page was not taken.
pub record SetScheme : Type 0 where
  pub scheme : Scheme
  pub gauge : GaugeValue
  pub tried : ℕ
  pub applied : ℕ
  pub exceeds : ℕ

-- A slot: its scheme, if it is set, and its window and cost, which stay when the slot is set or dropped.
pub record SlotValue : Type 0 where
  pub set : Option SetScheme
  pub window : Window
  pub cost : Cost

-- a slot that was never set
abbrev pub empty_slot : SlotValue
empty_slot = record { set = None; window = record { start = 0; charged = 0 }; cost = record { pages = 0; nanos = 0 } }

-- a scheme as it is set: no metric was seen, and its statistics are 0
abbrev pub set_scheme : Scheme → SetScheme
set_scheme s = record { scheme = s; gauge = record { marks = s.marks; active = is_active s.marks [] }; tried = 0; applied = 0; exceeds = 0 }

-- the slot once it is set to a scheme, or dropped
abbrev pub changed : Option Scheme → SlotValue → SlotValue
changed scheme s = record s { set = option_map set_scheme scheme }

-- a set scheme after a metric
abbrev pub scheme_metered : ℕ → SetScheme → SetScheme
scheme_metered value h = record h { gauge = record h.gauge { active = after_metric h.gauge.marks h.gauge.active value } }

-- the slot after a metric
abbrev pub metered : ℕ → SlotValue → SlotValue
metered value s = record s { set = option_map (scheme_metered value) s.set }

-- the slot after a cost was measured
abbrev pub costed : ℕ → SlotValue → SlotValue
costed nanos s = record s { cost = record s.cost { nanos = more_nanos s.cost.nanos nanos } }

-- the quota of the slot's scheme, if there is one
abbrev pub quota_of : SlotValue → Option Quota
quota_of s = option_and_then (λ h. h.scheme.quota) s.set

-- a window at a tick, where the quota may begin a new one
abbrev pub window_at : ℕ → Option Quota → Window → Window
window_at tick None w = w
window_at tick (Some q) w = turned q tick w

-- the slot with its window at a tick
abbrev pub turned_slot : ℕ → SlotValue → SlotValue
turned_slot tick s = record s { window = window_at tick (quota_of s) s.window }

-- what a slot shows, if it is set
abbrev pub slot_view : SlotValue → Option SlotView
slot_view s =
    option_map
    (λ h. record { action = h.scheme.action; active = h.gauge.active; window = s.window; tried = h.tried; applied = h.applied; exceeds = h.exceeds })
    s.set
