-- The numbers of journals of scripts that are within their limits.
use Rattle.std.specs.Prelude.{◌≡◌, ℕ, ◌^◌, ◌<◌, List, Some}
use Rattle.std.specs.List.{AllByRecursion}
use Rattle.live_commit.specs.declared.fault.CommitFault.{CommitFault}
use Rattle.live_commit.specs.declared.fault.CommitFault.TheVariants.{Busy, BadRange, RangesOverMax, OverCap, BadCost}
use Rattle.damon_control.specs.Live.{CallValue, LiveValue}
use Rattle.damon_control.specs.Spellable.{FitsCall}
use Rattle.run_journal.specs.declared.entry.CallAnswer.{CallAnswer}
use Rattle.run_journal.specs.declared.entry.CallAnswer.TheVariants.{Shown, Changed, Refused}
use Rattle.run_journal.specs.declared.entry.Entry.{Entry}
use Rattle.run_journal.specs.declared.entry.Entry.TheVariants.{Prepare, Check, Void, Aggregate, Call}
use Rattle.run_journal.specs.declared.entry.Receipt.{Receipt}
use Rattle.run_journal.specs.Replay.{JournalValue, call_at}

-- ---- values within their types

-- a text of the script's version can spell each of its calls
abbrev pub CanCall : LiveValue → Type 0
CanCall v = (controller index : ℕ) (call : CallValue) → call_at v controller index ≡ Some call → FitsCall v.setup.version call

-- the numbers of a refusal are within their types
abbrev pub FaultFits : CommitFault → Type 0
FaultFits (Busy next) = next < 2 ^ 64
FaultFits (BadRange index why) = index < 2 ^ 64
FaultFits (RangesOverMax ranges max) = (ranges < 2 ^ 64) × (max < 2 ^ 64)
FaultFits (OverCap max cap) = (max < 2 ^ 64) × (cap < 2 ^ 64)
FaultFits (BadCost slot) = slot < 2 ^ 8
FaultFits _ = Unit {0}

-- those of an answer
abbrev pub AnswerFits : CallAnswer → Type 0
AnswerFits (Shown tick rows) = (tick < 2 ^ 64) × (rows < 2 ^ 64)
AnswerFits (Changed rows void) = rows < 2 ^ 64
AnswerFits (Refused fault) = FaultFits fault

-- those of an entry
abbrev pub EntryNumbersFit : Entry → Type 0
EntryNumbersFit (Prepare pass position) = (pass < 2 ^ 64) × (position < 2 ^ 64)
EntryNumbersFit (Check pass) = pass < 2 ^ 64
EntryNumbersFit (Void pass) = pass < 2 ^ 64
EntryNumbersFit (Aggregate tick position) = (tick < 2 ^ 64) × (position < 2 ^ 64)
EntryNumbersFit (Call controller index answer) = (controller < 2 ^ 64) × (index < 2 ^ 64) × AnswerFits answer

-- each tag is a number of 64 bits
abbrev pub TagsFit : List (List Receipt) → Type 0
TagsFit all = AllByRecursion (λ rs. AllByRecursion (λ r. r.tag < 2 ^ 64) rs) all

-- the numbers of the entries and the tags of the receipts are within their types
pub record NumbersFit (j : JournalValue) (all : List (List Receipt)) : Type 0 where
  pub numbers : AllByRecursion EntryNumbersFit j.entries
  pub tags : TagsFit all
