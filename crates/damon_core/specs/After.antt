-- What each event makes of a state.
use Rattle.std.specs.Prelude.{ℕ, ◌+◌, Bool, ◌==◌, nat_le, List, [], ◌∷◌, slice_index, if◌then◌else◌, cond}
use Rattle.damon_types.specs.declared.row.Row.{Row}
use Rattle.damon_types.specs.Span.{spans}
use Rattle.live_commit.specs.declared.phase.Phase.{Phase}
use Rattle.live_commit.specs.declared.phase.Phase.TheVariants.{Idle, Clearing, Armed, Checking, Void, Due}
use Rattle.sampler.specs.Pick.{picks_of}
use Rattle.damon_core.specs.Note.{Note, touched, cleared, checked, finished, voided, was_hit}
use Rattle.damon_core.specs.State.{Core, State, row_count}
use Rattle.damon_core.specs.Aggregate.{aggregated}
use Rattle.damon_core.specs.Commit.{check_of, committed, if_accepted}
use Rattle.damon_core.specs.Event.{Event, touch, prepare, clear, load, observe, aggregate, commit, show, clear_index, load_index}

-- the phase once k picks are cleared
abbrev pub phase_cleared : ℕ → ℕ → Phase
phase_cleared k rows = if k == rows then Armed else Clearing k

-- the phase after a pass: an aggregation is due once `aggr` passes have ended since the last one
abbrev pub phase_after_pass : ℕ → ℕ → Phase
phase_after_pass since aggr = if nat_le aggr since then Due else Idle

-- what a monitor shows after a pass is prepared
abbrev pub prepared_core : List ℕ → Core → Core
prepared_core words c = record c { phase = Clearing 0; picks = picks_of c.regions.rows words }

-- what a monitor shows once n picks more are cleared
abbrev pub cleared_core : ℕ → Core → Core
cleared_core n c = record c { phase = phase_cleared (clear_index c.phase + n) (row_count c) }

-- what a monitor shows once n picks more are loaded
abbrev pub loaded_core : ℕ → Core → Core
loaded_core n c = record c { phase = Checking (load_index c.phase + n) }

-- the state after pick k is loaded, with this result
abbrev pub loaded_at : ℕ → Bool → State → State
loaded_at k hit s = record {
  core = record s.core { phase = Checking (k + 1) };
  notes = checked (s.core.ticks + 1) k (slice_index s.core.picks k) hit ∷ s.notes;
}

-- the rows with 1 added to the count of each whose check in the pass was a hit, counting rows from k
abbrev pub counted_from : ℕ → List Note → ℕ → List Row → List Row
counted_from k notes pass [] = []
counted_from k notes pass (r ∷ rows) =
    record r { count = r.count + cond (was_hit notes pass k) 1 0 } ∷ counted_from (k + 1) notes pass rows

-- what a monitor shows when a pass has ended
abbrev pub passed_core : Core → Core
passed_core c = record c { phase = phase_after_pass (c.since + 1) c.attrs.aggr; ticks = c.ticks + 1; since = c.since + 1 }

-- the state after a pass that counts
abbrev pub finished_pass : State → State
finished_pass s = record {
  core = passed_core (record s.core { regions = record s.core.regions { rows = counted_from 0 s.notes (s.core.ticks + 1) s.core.regions.rows } });
  notes = finished (s.core.ticks + 1) (spans s.core.regions.rows) ∷ s.notes;
}

-- what a clear does in the phase where it fits: pick k is cleared
abbrev pub by_clear : Phase → State → State
by_clear (Clearing k) s = record {
  core = record s.core { phase = phase_cleared (k + 1) (row_count s.core) };
  notes = cleared (s.core.ticks + 1) k (slice_index s.core.picks k) ∷ s.notes;
}
by_clear _ s = s

-- what a load with this result does in each phase where it fits
abbrev pub by_load : Phase → Bool → State → State
by_load Armed hit s = loaded_at 0 hit s
by_load (Checking k) hit s = loaded_at k hit s
by_load _ hit s = s

-- what the end of a pass does in each phase where it fits: a pass that counts, and a void one
abbrev pub by_observe : Phase → State → State
by_observe (Checking k) s = finished_pass s
by_observe Void s = record { core = passed_core s.core; notes = voided (s.core.ticks + 1) ∷ s.notes }
by_observe _ s = s

-- what an event that fits makes of a state; a commit that is refused changes nothing
abbrev pub after : State → Event → State
after s (touch page) = record s { notes = touched page ∷ s.notes }
after s (prepare words) = record s { core = prepared_core words s.core }
after s clear = by_clear s.core.phase s
after s (load hit) = by_load s.core.phase hit s
after s observe = by_observe s.core.phase s
after s (aggregate words) = aggregated words s
after s (commit parts) = if_accepted (check_of parts s.core) (committed parts s) s
after s show = s
