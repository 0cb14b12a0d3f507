-- What an aggregation does for the slots: their schemes are applied to the rows, one slot after another.
use Rattle.std.specs.Prelude.{ℕ, zero, suc, ◌+◌, false, List, [], ◌∷◌, ◌++◌, Option, if◌then◌else◌}
use Rattle.std.specs.Option.{option_map_or}
use Rattle.damon_types.specs.declared.row.Row.{Row}
use Rattle.damon_types.specs.declared.scheme.Quota.{Quota}
use Rattle.damon_types.specs.declared.scheme.Scheme.{Scheme}
use Rattle.damon_types.specs.declared.space.Target.{Target}
use Rattle.region_list.specs.Regions.{RegionList}
use Rattle.quota_charge.specs.Quota.{has_ended, left_of}
use Rattle.scheme_engine.specs.declared.applied.AppliedRun.{AppliedRun}
use Rattle.scheme_engine.specs.declared.applied.SlotChoice.{SlotChoice}
use Rattle.scheme_engine.specs.Outcome.{outcome_of}
use Rattle.scheme_engine.specs.Served.{choice_of, no_choice}
use Rattle.damon_core.specs.Note.{Note, turned, ran}
use Rattle.damon_core.specs.Slots.{charged_of, cost_of, is_active_in, scheme_of, start_of}

-- the rows and the notes after slots were served, the runs that were applied in order, and the choices of the set slots
pub record Serving : Type 0 where
  pub rows : List Row
  pub notes : List Note
  pub runs : List AppliedRun
  pub choices : List SlotChoice

-- nothing was served
abbrev pub nothing_served : RegionList → List Note → Serving
nothing_served regions notes = record { rows = regions.rows; notes = notes; runs = []; choices = [] }

-- notes with that of a window that begins, where the one before has ended at a tick: never without a quota
abbrev pub with_turn : ℕ → ℕ → Option Quota → List Note → List Note
with_turn slot tick quota notes =
    if option_map_or (λ q. has_ended q (start_of notes slot) tick) quota false then turned slot tick ∷ notes else notes

-- what is left of the quota of a slot's scheme at a tick, once its window may have begun anew
abbrev pub left_then : ℕ → ℕ → List Note → Scheme → Option ℕ
left_then slot tick notes scheme =
    let now = with_turn slot tick scheme.quota notes in
    left_of scheme.quota (cost_of now slot) (charged_of now slot)

-- A set slot is served: its window may begin anew, and then its scheme is run with what is left of its quota, if it is active.
abbrev pub serve_scheme : ℕ → List Target → ℕ → ℕ → RegionList → List Note → Scheme → Serving
serve_scheme slot space aggr tick regions notes scheme =
    let now = with_turn slot tick scheme.quota notes in
    let left = left_then slot tick notes scheme in
    let o = outcome_of slot space aggr scheme left regions in
    if is_active_in now slot scheme
    then record { rows = o.rows; notes = ran slot tick o.tried o.runs o.exceeds ∷ now; runs = o.runs; choices = choice_of slot left o ∷ [] }
    else record { rows = regions.rows; notes = now; runs = []; choices = no_choice slot ∷ [] }

-- a slot is served if it is set
abbrev pub serve_slot : ℕ → List Target → ℕ → ℕ → RegionList → List Note → Serving
serve_slot slot space aggr tick regions notes =
    option_map_or (serve_scheme slot space aggr tick regions notes) (scheme_of notes slot) (nothing_served regions notes)

-- n slots are served in order, the first of which has this number, in a space, at the end of an aggregation of `aggr` passes
abbrev pub serve_slots : ℕ → ℕ → List Target → ℕ → ℕ → RegionList → List Note → Serving
serve_slots zero slot space aggr tick regions notes = nothing_served regions notes
serve_slots (suc n) slot space aggr tick regions notes =
    let first = serve_slot slot space aggr tick regions notes in
    let others = serve_slots n (slot + 1) space aggr tick (record regions { rows = first.rows }) first.notes in
    record { rows = others.rows; notes = others.notes; runs = first.runs ++ others.runs; choices = first.choices ++ others.choices }
