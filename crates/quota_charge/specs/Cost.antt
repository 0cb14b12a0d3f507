-- The cost of a slot.
use Rattle.std.specs.Prelude.{ℕ, ◌+◌, ◌-◌, ◌^◌, min}

-- nanoseconds with more: the sum stops at the greatest number of 64 bits
abbrev pub more_nanos : ℕ → ℕ → ℕ
more_nanos nanos more = min (nanos + more) (2 ^ 64 - 1)
