-- A journal that is carried out by a monitor, entry by entry.
use Rattle.std.specs.Prelude.{◌≡◌, ℕ, ◌<◌, Bool, List, [], ◌++◌, length, Some}
use Rattle.rand_pcg.specs.Lcg.{Lcg}
use Rattle.damon_core.specs.Reached.{CanOpen, Reached}
use Rattle.damon_core.specs.Stands.{MonitorView, Stands}
use Rattle.damon_control.specs.Live.{CallValue, LiveValue}
use Rattle.run_journal.specs.declared.entry.CallAnswer.{CallAnswer}
use Rattle.run_journal.specs.declared.entry.Entry.{Entry}
use Rattle.run_journal.specs.declared.entry.Entry.TheVariants.{Call}
use Rattle.run_journal.specs.Growth.{calls_so_far, with_call_of, longer, replay_with}
use Rattle.run_journal.specs.Replay.{EntryFits, IsJournalOf, JournalValue, call_at, carried, replay}
use Rattle.run_journal.specs.Steps.{entry_steps, steps}
use Rattle.sampler.specs.Seeds.{words_from}
use Rattle.run_journal.specs.Words.{words_after}

-- a monitor, the random words to come, and how many were drawn
pub record ReplayingView : Type 0 where
  pub monitor : MonitorView
  pub words : Lcg
  pub drawn : ℕ

-- the entries of a journal are carried out, from a setup within its limits: the monitor stands for the state of its replay, and the words to come are those after
-- the ones that were drawn
pub record IsReplayOf (v : LiveValue) (j : JournalValue) (r : ReplayingView) : Type 0 where
  pub opens : CanOpen v.setup
  pub journal : IsJournalOf v j
  pub reached : Reached (replay v j).state
  pub stands : Stands r.monitor (replay v j).state
  pub drawn : r.drawn ≡ (replay v j).drawn
  pub words : words_from r.words ≡ words_after v.seed r.drawn

-- One entry more is carried out, with these results: in a script that may have got the call of the entry, the entry fits, the
-- replay goes on by it, and the steps of the journal are those before and then those of the entry
pub record IsCarried (v w : LiveValue) (j : JournalValue) (e : Entry) (bits : List Bool) (new : ReplayingView) : Type 0 where
  pub fits : EntryFits w (replay_with v j bits) e
  pub replays : IsReplayOf w (longer j e bits) new
  pub is : replay w (longer j e bits) ≡ carried w (replay_with v j bits) e
  pub steps_are : steps w (longer j e bits) ≡ steps v j ++ entry_steps w (replay_with v j bits) e

-- an entry that is no call is carried out, whatever the entries before it were
abbrev pub Carries : ReplayingView → ReplayingView → Entry → List Bool → Type 0
Carries old new e bits = (v : LiveValue) (j : JournalValue) → IsReplayOf v j old → IsCarried v v j e bits new

-- a call is carried out, which becomes the next one of any controller
abbrev pub CarriesCall : ReplayingView → ReplayingView → CallValue → CallAnswer → Type 0
CarriesCall old new call answer =
    (v : LiveValue) (j : JournalValue) (controller : ℕ) → IsReplayOf v j old → controller < length v.controllers
    → IsCarried v (with_call_of v controller call) j (Call controller (length (calls_so_far v controller)) answer) [] new

-- a call is carried out, which the script has
abbrev pub CarriesKnown : ReplayingView → ReplayingView → CallValue → CallAnswer → Type 0
CarriesKnown old new call answer =
    (v : LiveValue) (j : JournalValue) (controller index : ℕ) → IsReplayOf v j old → call_at v controller index ≡ Some call
    → IsCarried v v j (Call controller index answer) [] new
