-- The engine, as contracts see it.
use Rattle.std.specs.Prelude.{ℕ, ◌≤◌, ◌<◌, ◌^◌, List, IsSome, IfSome}
use Rattle.std.specs.List.{AllByRecursion}
use Rattle.scheme_engine.specs.Slots.{SlotValue}

-- the slots, and the most rows for which there is room
pub record EngineValue : Type 0 where
  pub slots : List SlotValue
  pub cap : ℕ

-- no set slot has a window that begins after this tick
abbrev pub BeginBy : ℕ → List SlotValue → Type 0
BeginBy tick slots = AllByRecursion (λ s. IsSome s.set → s.window.start ≤ tick) slots

-- the statistics of a set slot, and the pages charged to a slot, fit in 64 bits
pub record FitsSlot (s : SlotValue) : Type 0 where
  pub tried : IfSome s.set (λ h. h.tried < 2 ^ 64)
  pub applied : IfSome s.set (λ h. h.applied < 2 ^ 64)
  pub exceeds : IfSome s.set (λ h. h.exceeds < 2 ^ 64)
  pub charged : s.window.charged < 2 ^ 64
  pub cost : s.cost.pages < 2 ^ 64
