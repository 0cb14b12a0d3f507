-- A journal that is carried out from one aggregation to the next.
use Rattle.std.specs.Prelude.{◌≡◌, ℕ, ◌+◌, ◌*◌, ◌-◌, ◌^◌, ◌≤◌, Bool, List, [], ◌∷◌, drop, length, map, Option, Some, None}
use Rattle.rand_pcg.specs.Lcg.{Lcg}
use Rattle.damon_core.specs.Reached.{Reached}
use Rattle.damon_core.specs.Stands.{MonitorView, Stands}
use Rattle.damon_core.specs.State.{State}
use Rattle.damon_control.specs.declared.reader.TheConstants.{MAX_BYTES}
use Rattle.damon_control.specs.Live.{CallValue, LiveValue}
use Rattle.run_journal.specs.declared.entry.Entry.{Entry}
use Rattle.journal_check.specs.declared.entries.kept.KeptCall.{KeptCall}
use Rattle.run_journal.specs.Aggregated.{aggregated, aggregated_from}
use Rattle.run_journal.specs.Growth.{replay_with}
use Rattle.journal_check.specs.Kept.{calls_from, kept_call}
use Rattle.journal_text.specs.Place.{JournalRead}
use Rattle.run_journal.specs.Replay.{EntriesFit, JournalValue, replay, replay_from}
use Rattle.run_journal.specs.Replaying.{IsReplayOf, ReplayingView}
use Rattle.journal_check.specs.Verified.{IsRunText}

-- A monitor, the random words to come and how many were drawn, the number of entries that are carried out, how many are left, and what
-- is kept of these: the results of their checks, and their calls, with the index of each entry.
pub record ReplayerView : Type 0 where
  pub monitor : MonitorView
  pub words : Lcg
  pub drawn : ℕ
  pub done : ℕ
  pub left : ℕ
  pub bits : List Bool
  pub calls : List (ℕ × Option CallValue)

-- what is carried out
abbrev pub replaying_of : ReplayerView → ReplayingView
replaying_of r = record { monitor = r.monitor; words = r.words; drawn = r.drawn }

-- the view of what is carried out and of all that was kept, of which this many entries, results and calls are done
abbrev pub replayer_of : ReplayingView → List Bool → List KeptCall → ℕ → ℕ → ℕ → ℕ → ReplayerView
replayer_of r bits calls entries done bits_done calls_done = record {
  monitor = r.monitor;
  words = r.words;
  drawn = r.drawn;
  done = done;
  left = entries - done;
  bits = drop bits_done bits;
  calls = drop calls_done (map kept_call calls);
}

-- What is left of a journal leads through these states, directly after its aggregations, and to the last one at its end: the entries
-- that are carried out are a journal of a script, and those that are left fit after them.
pub record Leads (states : List State) (last : State) (r : ReplayerView) : Type 0 where
  pub live : LiveValue
  pub journal : JournalValue
  pub entries : List Entry
  pub carried_out : IsReplayOf live journal (replaying_of r)
  pub fit : EntriesFit live (replay_with live journal r.bits) entries
  pub done : r.done ≡ length journal.entries
  pub left : r.left ≡ length entries
  pub calls : r.calls ≡ calls_from live r.done entries
  pub through : states ≡ aggregated_from live (replay_with live journal r.bits) entries
  pub to : last ≡ (replay_from live (replay_with live journal r.bits) entries).state
  pub few : r.done + r.left ≤ MAX_BYTES
  pub ticks : r.monitor.core.ticks ≤ r.done
  pub drawn : r.drawn ≤ 2 ^ 33 * r.done

-- what is left of some journal leads through some states
abbrev pub IsOnWay : ReplayerView → Type 0
IsOnWay r = (states : List State) × (last : State) × Leads states last r

-- the monitor stands for a state to which events lead that fit
abbrev pub StandsForReached : MonitorView → Type 0
StandsForReached m = (s : State) × Reached s × Stands m s

-- The text is that of a run, of whose journal nothing is carried out yet: it leads through the states after its aggregations to its last
-- state.
pub record ReadsRun (text : List ℕ) (r : ReplayerView) : Type 0 where
  pub said : JournalRead
  pub run : IsRunText text said
  pub fresh : r.done ≡ 0
  pub leads : Leads (aggregated said.live said.journal) (replay said.live said.journal).state r
  pub space : r.monitor.core.space ≡ said.live.setup.space

-- the first of these states was reached, with this tick, and the others are to come
pub record ReachesNext (tick : ℕ) (states : List State) (last : State) (r : ReplayerView) : Type 0 where
  pub state : State
  pub rest : List State
  pub first : states ≡ state ∷ rest
  pub tick_is : tick ≡ state.core.ticks
  pub stands : Stands r.monitor state
  pub reached : Reached state
  pub leads : Leads rest last r

-- no state was left, all entries are carried out, and the last state is reached
pub record ReachesLast (states : List State) (last : State) (r : ReplayerView) : Type 0 where
  pub none : states ≡ []
  pub all : r.left ≡ 0
  pub stands : Stands r.monitor last
  pub reached : Reached last
  pub leads : Leads [] last r

-- whatever states the old one leads through, the new one still does
abbrev pub KeepsWay : ReplayerView → ReplayerView → Type 0
KeepsWay old new = (states : List State) (last : State) → Leads states last old → Leads states last new

-- an entry was carried out, which was an aggregation where a tick is returned
abbrev pub HasStepped : Option ℕ → List State → State → ReplayerView → Type 0
HasStepped (Some tick) states last r = ReachesNext tick states last r
HasStepped None states last r = Leads states last r
