-- Whether a slot is active, by the metrics since it was set.
use Rattle.std.specs.Prelude.{ℕ, Bool, true, false, ◌&&◌, not, nat_le, nat_lt, List, filter, Option, Some, None, if◌then◌else◌}
use Rattle.std.specs.List.{last_or}
use Rattle.std.specs.Option.{option_map_or}
use Rattle.damon_types.specs.declared.scheme.Marks.{Marks}

-- whether a metric decides: it does not lie from mid to high, both included
abbrev pub decides : Marks → ℕ → Bool
decides m value = not (nat_le m.mid value && nat_le value m.high)

-- whether a metric makes a slot active: it lies from low to below mid
abbrev pub activates : Marks → ℕ → Bool
activates m value = nat_le m.low value && nat_lt value m.mid

-- Whether a slot is active by the metrics since it was set, the oldest first: always without marks; with marks exactly
-- where some metric decides and the last one that does makes it active.
abbrev pub is_active : Option Marks → List ℕ → Bool
is_active None metrics = true
is_active (Some m) metrics = option_map_or (activates m) (last_or None (filter (decides m) metrics)) false

-- whether a slot is active after one more metric, by whether it was active before
abbrev pub after_metric : Option Marks → Bool → ℕ → Bool
after_metric None active value = active
after_metric (Some m) active value = if decides m value then activates m value else active
