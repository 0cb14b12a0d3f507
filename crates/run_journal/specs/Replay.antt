-- A journal carried out: which entries fit where, and the state that they lead to.
use Rattle.std.specs.Prelude.{◌≡◌, ℕ, ◌+◌, ◌*◌, ◌≤◌, Bool, List, [], ◌∷◌, ◌++◌, drop, length, map, slice_get, slice_index_or, take, Option, Some, Result, Ok, Err}
use Rattle.std.specs.Option.{option_map_or}
use Rattle.live_commit.specs.declared.fault.CommitFault.{CommitFault}
use Rattle.damon_core.specs.declared.changed.Changed.{Changed}
use Rattle.damon_core.specs.Commit.{commit_answer}
use Rattle.damon_core.specs.Event.{Event, prepare, load, observe, aggregate, commit, show}
use Rattle.damon_core.specs.Reached.{run}
use Rattle.damon_core.specs.Several.{clears}
use Rattle.damon_core.specs.State.{Core, State, opening, row_count}
use Rattle.damon_control.specs.Live.{CallValue, CommitCall, LiveValue, ShowCall}
use Rattle.run_journal.specs.declared.entry.CallAnswer.{CallAnswer}
use Rattle.run_journal.specs.declared.entry.CallAnswer.TheVariants.{Shown, Changed as changed_answer, Refused}
use Rattle.run_journal.specs.declared.entry.Entry.{Entry}
use Rattle.run_journal.specs.declared.entry.Entry.TheVariants.{Prepare, Check, Void, Aggregate, Call}
use Rattle.run_journal.specs.Phases.{IsArmed, IsDue, IsFree, IsIdle, IsVoid}
use Rattle.run_journal.specs.Words.{words_at}

-- a journal: its entries, and the results of all its loads in order
pub record JournalValue : Type 0 where
  pub entries : List Entry
  pub bits : List Bool

-- a replay on its way: its state, the results that are left, and how many random words were drawn
pub record Replayed : Type 0 where
  pub state : State
  pub bits : List Bool
  pub drawn : ℕ

-- a call of a controller of a script
abbrev pub call_at : LiveValue → ℕ → ℕ → Option CallValue
call_at v controller index = slice_get (slice_index_or v.controllers controller []) index

-- the event of a call
abbrev pub call_event : CallValue → Event
call_event ShowCall = show
call_event (CommitCall parts) = commit parts

-- the answer of a commit
abbrev pub answer_of : Result Changed CommitFault → CallAnswer
answer_of (Ok changed) = changed_answer changed.rows changed.void
answer_of (Err fault) = Refused fault

-- the answer of a call in a state
abbrev pub call_answer : CallValue → Core → CallAnswer
call_answer ShowCall c = Shown c.ticks (row_count c)
call_answer (CommitCall parts) c = answer_of (commit_answer parts c)

-- how many random words an entry takes
abbrev pub words_taken : Core → Entry → ℕ
words_taken c (Prepare pass at) = row_count c
words_taken c (Aggregate tick at) = 2 * c.attrs.max
words_taken c _ = 0

-- how many results of loads
abbrev pub bits_taken : Core → Entry → ℕ
bits_taken c (Check pass) = row_count c
bits_taken c _ = 0

-- the events of an entry
abbrev pub entry_events : LiveValue → Replayed → Entry → List Event
entry_events v r (Prepare pass at) = prepare (words_at v.seed r.drawn (row_count r.state.core)) ∷ clears (row_count r.state.core)
entry_events v r (Check pass) = map (λ bit. load bit) (take (row_count r.state.core) r.bits) ++ observe ∷ []
entry_events v r (Void pass) = observe ∷ []
entry_events v r (Aggregate tick at) = aggregate (words_at v.seed r.drawn (2 * r.state.core.attrs.max)) ∷ []
entry_events v r (Call controller index answer) = option_map_or (λ call. call_event call ∷ []) (call_at v controller index) []

-- where an entry fits: in its phase, with its numbers, and with the answer that the state gives
abbrev pub EntryFits : LiveValue → Replayed → Entry → Type 0
EntryFits v r (Prepare pass at) = IsIdle r.state.core.phase × (pass ≡ r.state.core.ticks + 1) × (at ≡ r.drawn)
EntryFits v r (Check pass) = IsArmed r.state.core.phase × (pass ≡ r.state.core.ticks + 1) × (row_count r.state.core ≤ length r.bits)
EntryFits v r (Void pass) = IsVoid r.state.core.phase × (pass ≡ r.state.core.ticks + 1)
EntryFits v r (Aggregate tick at) = IsDue r.state.core.phase × (tick ≡ r.state.core.ticks) × (at ≡ r.drawn)
EntryFits v r (Call controller index answer) = IsFree r.state.core.phase × ((call : CallValue) × (call_at v controller index ≡ Some call) × (answer ≡ call_answer call r.state.core))

-- after an entry
abbrev pub carried : LiveValue → Replayed → Entry → Replayed
carried v r e = record {
  state = run r.state (entry_events v r e);
  bits = drop (bits_taken r.state.core e) r.bits;
  drawn = r.drawn + words_taken r.state.core e;
}

-- after entries
abbrev pub replay_from : LiveValue → Replayed → List Entry → Replayed
replay_from v r [] = r
replay_from v r (e ∷ es) = replay_from v (carried v r e) es

-- each entry fits where it stands
abbrev pub EntriesFit : LiveValue → Replayed → List Entry → Type 0
EntriesFit v r [] = Unit {0}
EntriesFit v r (e ∷ es) = EntryFits v r e × EntriesFit v (carried v r e) es

-- before the first entry
abbrev pub begun : LiveValue → List Bool → Replayed
begun v bits = record { state = opening v.setup; bits = bits; drawn = 0 }

-- after all entries of a journal
abbrev pub replay : LiveValue → JournalValue → Replayed
replay v j = replay_from v (begun v j.bits) j.entries

-- the journal is one of the script: each entry fits, and no result is left
pub record IsJournalOf (v : LiveValue) (j : JournalValue) : Type 0 where
  pub fit : EntriesFit v (begun v j.bits) j.entries
  pub none_left : (replay v j).bits ≡ []

-- how many results an entry has, where it is a check
abbrev pub check_size : Replayed → Entry → List ℕ
check_size r (Check pass) = row_count r.state.core ∷ []
check_size r _ = []

-- the same of entries
abbrev pub check_sizes_from : LiveValue → Replayed → List Entry → List ℕ
check_sizes_from v r [] = []
check_sizes_from v r (e ∷ es) = check_size r e ++ check_sizes_from v (carried v r e) es

-- how many results each check of a journal has, in order
abbrev pub check_sizes : LiveValue → JournalValue → List ℕ
check_sizes v j = check_sizes_from v (begun v j.bits) j.entries
