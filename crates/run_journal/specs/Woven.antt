-- One list of events for a journal and receipts: touches stand among the events of the journal, so that its loads find them.
use Rattle.std.specs.Prelude.{◌≡◌, ℕ, Bool, true, false, ◌==◌, List, [], ◌∷◌, ◌++◌, filter, length}
use Rattle.damon_core.specs.Bound.{Bound}
use Rattle.damon_core.specs.Event.{Event, touch}
use Rattle.damon_core.specs.Note.{Note, touched}
use Rattle.damon_core.specs.Reached.{AllByHit, AllFit, run}
use Rattle.damon_core.specs.State.{State, opening}
use Rattle.damon_control.specs.Live.{LiveValue}
use Rattle.run_journal.specs.declared.entry.Entry.{Entry}
use Rattle.run_journal.specs.declared.entry.Receipt.{Receipt}
use Rattle.run_journal.specs.Few.{receipts_of}
use Rattle.run_journal.specs.Replay.{JournalValue, Replayed, begun, carried, entry_events, replay}

-- the events of entries
abbrev pub events_from : LiveValue → Replayed → List Entry → List Event
events_from v r [] = []
events_from v r (e ∷ es) = entry_events v r e ++ events_from v (carried v r e) es

-- the events of a journal
abbrev pub events_of : LiveValue → JournalValue → List Event
events_of v j = events_from v (begun v j.bits) j.entries

-- whether an event is no touch
abbrev pub is_no_touch_event : Event → Bool
is_no_touch_event (touch page) = false
is_no_touch_event _ = true

-- whether an event is a touch of this page
abbrev pub is_touch_of : ℕ → Event → Bool
is_touch_of page (touch p) = p == page
is_touch_of page _ = false

-- The events of a journal with touches among them: without the touches they are those of the journal, in order, and each page is
-- touched as often as it has receipts.
pub record AreWoven (v : LiveValue) (j : JournalValue) (all : List (List Receipt)) (events : List Event) : Type 0 where
  pub others : filter is_no_touch_event events ≡ events_of v j
  pub touches : (page : ℕ) → length (filter (is_touch_of page) events) ≡ receipts_of all page

-- whether a note is no touch
abbrev pub is_no_touch : Note → Bool
is_no_touch (touched page) = false
is_no_touch _ = true

-- a state without the notes of touches
abbrev pub untouched : State → State
untouched s = record s { notes = filter is_no_touch s.notes }

-- There are events in which the journal is woven with all touches. They fit; each load has the result of its page, which is the kept
-- one; each state to which a prefix of them leads is bound; and they lead to the state of the replay, but for the touches.
pub record WovenRuns (v : LiveValue) (j : JournalValue) (all : List (List Receipt)) : Type 0 where
  pub events : List Event
  pub woven : AreWoven v j all events
  pub fit : AllFit (opening v.setup) events
  pub by_hit : AllByHit (opening v.setup) events
  pub bound : (first rest : List Event) → events ≡ first ++ rest → Bound (run (opening v.setup) first)
  pub same : untouched (run (opening v.setup) events) ≡ (replay v j).state
