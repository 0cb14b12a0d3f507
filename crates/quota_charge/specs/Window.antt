-- The window of a slot.
use Rattle.std.specs.Prelude.{ℕ, if◌then◌else◌}
use Rattle.damon_types.specs.declared.scheme.Quota.{Quota}
use Rattle.quota_charge.specs.declared.window.Window.{Window}
use Rattle.quota_charge.specs.Quota.{has_ended}

-- the window at a tick: a new one with nothing charged where the old one has ended, else the old one
abbrev pub turned : Quota → ℕ → Window → Window
turned q tick w = if has_ended q w.start tick then record { start = tick; charged = 0 } else w
