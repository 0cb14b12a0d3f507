-- The events of a journal with the touches of its receipts, each where the loads found it.
use Rattle.std.specs.Prelude.{ℕ, Bool, false, ◌&&◌, ◌||◌, ◌==◌, not, List, [], ◌∷◌, ◌++◌, filter, map, take}
use Rattle.damon_core.specs.Event.{Event, touch}
use Rattle.damon_core.specs.State.{row_count}
use Rattle.damon_control.specs.Live.{LiveValue}
use Rattle.run_journal.specs.declared.entry.Entry.{Entry}
use Rattle.run_journal.specs.declared.entry.Entry.TheVariants.{Check, Void}
use Rattle.run_journal.specs.declared.entry.Receipt.{Receipt}
use Rattle.run_journal.specs.Lawful.{all_of}
use Rattle.run_journal.specs.Replay.{JournalValue, Replayed, begun, carried, entry_events}

-- the touches of receipts
abbrev pub touch_events : List Receipt → List Event
touch_events rs = map (λ r. touch r.page) rs

-- whether a pick of this page was a hit
abbrev pub hit_at : List ℕ → List Bool → ℕ → Bool
hit_at (p ∷ ps) (bit ∷ bits) page = ((p == page) && bit) || hit_at ps bits page
hit_at _ _ page = false

-- the receipts of a pass whose pages were hits, given its picks and their results
abbrev pub early : ℕ → List ℕ → List Bool → List Receipt → List Receipt
early pass picks bits rs = filter (λ r. (r.tag == pass) && hit_at picks bits r.page) rs

-- the other receipts of the pass
abbrev pub late : ℕ → List ℕ → List Bool → List Receipt → List Receipt
late pass picks bits rs = filter (λ r. (r.tag == pass) && not (hit_at picks bits r.page)) rs

-- the touches before the events of an entry: the early ones of a pass, before its loads
abbrev pub touches_before : List Receipt → Replayed → Entry → List Event
touches_before rs r (Check pass) = touch_events (early pass r.state.core.picks (take (row_count r.state.core) r.bits) rs)
touches_before rs r _ = []

-- the touches after the events of an entry: the late ones of a pass, after its end; in a void pass all are late
abbrev pub touches_after : List Receipt → Replayed → Entry → List Event
touches_after rs r (Check pass) = touch_events (late pass r.state.core.picks (take (row_count r.state.core) r.bits) rs)
touches_after rs r (Void pass) = touch_events (late pass [] [] rs)
touches_after rs r _ = []

-- the events of entries with the touches
abbrev pub woven_from : LiveValue → List Receipt → Replayed → List Entry → List Event
woven_from v rs r [] = []
woven_from v rs r (e ∷ es) = touches_before rs r e ++ (entry_events v r e ++ (touches_after rs r e ++ woven_from v rs (carried v r e) es))

-- the events of a journal with the touches; those before the first clear of their page come first
abbrev pub woven : LiveValue → JournalValue → List (List Receipt) → List Event
woven v j all = let rs = all_of all in touch_events (late 0 [] [] rs) ++ woven_from v rs (begun v j.bits) j.entries
