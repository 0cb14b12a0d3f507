-- What a run of `damond` ends with.
use Rattle.std.specs.Prelude.{◌≡◌, ◌⊎◌, ◌↔◌, ℕ, ◌*◌, ◌<◌, nat_le, nat_lt, Bool, true, false, List, [], ◌∷◌, codes, if◌then◌else◌, length, map, string_bytes, String, Option, None, Result, Ok, Err, IfSome}
use Rattle.std.specs.Option.{option_map}
use Rattle.std.specs.declared.alloc.Global.{Global}
use Rattle.script_lines.specs.Words.{same_word}
use Rattle.damon_control.specs.declared.fault.ScriptFault.{ScriptFault}
use Rattle.damon_control.specs.Live.{LiveValue}
use Rattle.damon_control.specs.LiveView.{live_said}
use Rattle.damon_control.specs.Script.{live_of}
use Rattle.run_journal.specs.declared.entry.Receipt.{Receipt}
use Rattle.run_status.specs.declared.status.Status.{Status}
use Rattle.run_status.specs.declared.status.Status.TheVariants as statuses
use Rattle.run_journal.specs.Lawful.{receipts_said}
use Rattle.run_journal.specs.Replay.{JournalValue}
use Rattle.run_journal.specs.Room.{nothing_said}
use Rattle.run_status.specs.Status.{IsFailure}
use Rattle.damon_live.specs.declared.top.LiveEnd.{LiveEnd}
use Rattle.damon_live.specs.declared.top.TheConstants.{MAX_RESULTS}

-- whether words, each given by its bytes, ask for a run: `run` alone
abbrev pub is_run : List (List ℕ) → Bool
is_run (word ∷ []) = same_word word (codes "run")
is_run _ = false

-- whether the program's words ask for a run
abbrev pub asks_run : List (String Global) → Bool
asks_run words = is_run (map string_bytes words)

-- what a run ended with: its status, the script that was carried out, its journal, and the receipts of each worker
pub record Ending : Type 0 where
  pub status : Status
  pub script : Option LiveValue
  pub journal : JournalValue
  pub receipts : List (List Receipt)

-- what the program returns, in these terms
abbrev pub ending : LiveEnd → Ending
ending e = record {
  status = e.status;
  script = option_map live_said e.script;
  journal = e.journal.value;
  receipts = receipts_said e.receipts;
}

-- the end of a run before a script was carried out
abbrev pub ended_early : Status → Ending
ended_early status = record { status = status; script = None; journal = nothing_said; receipts = [] }

-- no script was carried out, so the journal and the receipts are empty
pub record NothingRan (e : Ending) : Type 0 where
  pub journal : e.journal ≡ nothing_said
  pub receipts : e.receipts ≡ []

-- a script was carried out, where the run ended like this
abbrev pub HasRun : Status → Type 0
HasRun statuses.Ok = Unit {0}
HasRun statuses.WriteFault = Unit {0}
HasRun _ = ⊥

-- the results of loads that all passes of a script may have
abbrev pub most_results : LiveValue → ℕ
most_results v = v.passes * v.setup.cap

-- the status of what a text spells: `Ok` for a live script whose journal has room for its results, else why not
abbrev pub status_of_spelled : Result LiveValue ScriptFault → Status
status_of_spelled (Ok v) = if nat_le (most_results v) MAX_RESULTS then statuses.Ok else statuses.TooManyPasses v.passes v.setup.cap
status_of_spelled (Err fault) = statuses.Script fault.line fault.kind

-- the status of the bytes of an input, of which at most `limit` are allowed
abbrev pub status_of_input : ℕ → List ℕ → Status
status_of_input limit bytes =
    if nat_lt limit (length bytes) then statuses.TooLong else status_of_spelled (live_of bytes)

-- The status is the one that is expected, or a failure: with the word `run` that of the input, else `Usage`.
abbrev pub IsExpected : Bool → Status → ℕ → Option (List ℕ) → Type 0 → Type 0 → Type 0
IsExpected true status limit input read write =
    IfSome input (λ bytes. (status ≡ status_of_input limit bytes) ⊎ IsFailure status read write)
IsExpected false status limit input read write = status ≡ statuses.Usage

-- the status is a fault of the text exactly where the bytes have it
abbrev pub TellsFault : Status → List ℕ → Type 0
TellsFault status bytes =
    (fault : ScriptFault) → (status ≡ statuses.Script fault.line fault.kind) ↔ (live_of bytes ≡ Err fault)

-- the status tells of too many passes exactly where the bytes are a live script with these numbers, which are too many
abbrev pub TellsPasses : Status → List ℕ → Type 0
TellsPasses status bytes =
    (v : LiveValue) → live_of bytes ≡ Ok v
    → (status ≡ statuses.TooManyPasses v.passes v.setup.cap) ↔ (MAX_RESULTS < most_results v)
