-- What serving a slot changes, by the context that its steps share.
use Rattle.std.specs.Prelude.{ℕ, Bool, List, Option}
use Rattle.damon_types.specs.declared.range.Range.{Range}
use Rattle.region_list.specs.Regions.{RegionList}
use Rattle.scheme_filter.specs.Passes.{passes}
use Rattle.scheme_engine.specs.declared.pages.Context.{Context}
use Rattle.scheme_engine.specs.declared.pages.ServedScheme.{ServedScheme}
use Rattle.scheme_engine.specs.Outcome.{Outcome, outcome_of}
use Rattle.scheme_engine.specs.Served.{ServedSlot, slot_served}
use Rattle.scheme_engine.specs.Slots.{SlotValue}

-- whether a page in these ranges passes the filters of a scheme
abbrev pub passes_in : ServedScheme → List Range → ℕ → Bool
passes_in s ranges = passes s.scheme.now.filters s.space.now ranges

-- the outcome of a scheme, where `left` is what is left of its quota
abbrev pub outcome_in : ServedScheme → Option ℕ → RegionList → Outcome
outcome_in s left regions = outcome_of s.number s.space.now s.aggr s.scheme.now left regions

-- a slot that is served, whose window may begin anew
abbrev pub slot_served_in : Context → RegionList → SlotValue → ServedSlot
slot_served_in c regions s = slot_served c.number c.space.now c.aggr c.tick regions s
