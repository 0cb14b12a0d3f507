-- The clauses of the top call in one record, for the private functions below it. No public clause cites this file.
use Rattle.std.specs.Prelude.{◌≡◌, ◌≢◌, ◌↔◌, ℕ, ◌≤◌, ◌+◌, Bool, true, List, length, None, Ok, IfNone, IfSome, IsSome}
use Rattle.std.specs.Io.KnownBytes.{Appends, Consumes, IsAtEnd}
use Rattle.damon_types.specs.Calls.{EndsAtFault, Rose}
use Rattle.text_io.specs.Ends.{Ends}
use Rattle.text_io.specs.Given.{GaveOver}
use Rattle.text_io.specs.Taken.{WritesPart}
use Rattle.damon_control.specs.Live.{LiveValue}
use Rattle.damon_control.specs.Script.{live_of}
use Rattle.run_status.specs.declared.status.Status.{Status}
use Rattle.run_status.specs.declared.status.Status.TheVariants as statuses
use Rattle.journal_text.specs.Rules.{IsReadBack}
use Rattle.run_status.specs.Status.{IsRead, IsUnwritten}
use Rattle.journal_text.specs.Text.{journal_text}
use Rattle.damon_live.specs.Ending.{Ending, HasRun, IsExpected, NothingRan, TellsFault, TellsPasses, ended_early}
use Rattle.damon_live.specs.Whole.{IsWholeRun}

-- what the program says of its run, where `alone` and `same` are that the source and the sink were left alone
pub record IsEnding (limit : ℕ) (asked : Bool) (source source' sink sink' : Ends) (alone same : Type 0) (e : Ending) : Type 0 where
  pub run : IfSome e.script (λ v. IsWholeRun v e.journal e.receipts)
  pub script : IfSome e.script (λ v. IfSome source.bytes (λ bytes. live_of bytes ≡ Ok v))
  pub ran : HasRun e.status → IsSome e.script
  pub none : IfNone e.script (NothingRan e)
  pub ok : e.status ≡ statuses.Ok → IfSome e.script (λ v. Appends sink.bytes sink'.bytes (journal_text v e.journal e.receipts))
  pub part : IfSome e.script (λ v. WritesPart sink.bytes sink'.bytes (journal_text v e.journal e.receipts))
  pub back : IfSome e.script (λ v. IsReadBack v e.journal e.receipts)
  pub unwritten : IfNone e.script same
  pub early : IsUnwritten e.status → e.script ≡ None
  pub comes : (line : ℕ) → e.status ≢ statuses.Unlawful line
  pub end : asked ≡ true → IsRead e.status → IsAtEnd source'.bytes
  pub complete : IsExpected asked e.status limit source.bytes (Rose source.calls source'.calls) (Rose sink.calls sink'.calls)
  pub usage : (e.status ≡ statuses.Usage) ↔ (asked ≢ true)
  pub too_long : e.status ≢ statuses.Memory → IsSome source.bytes
      → (e.status ≡ statuses.TooLong) ↔ GaveOver limit source.bytes source'.bytes
  pub fault : asked ≡ true → IsRead e.status → IfSome source.bytes (TellsFault e.status)
  pub passes : asked ≡ true → IsRead e.status → IfSome source.bytes (TellsPasses e.status)
  pub reads : EndsAtFault (e.status ≡ statuses.ReadFault) source.calls source'.calls
  pub calls : source'.calls.made ≤ source.calls.made + (limit + 1)
  pub writes : EndsAtFault (e.status ≡ statuses.WriteFault) sink.calls sink'.calls
  pub unread : asked ≢ true → alone

-- the source was read to its end, and its bytes spell this live script
pub record IsTaken (limit : ℕ) (source source' : Ends) (v : LiveValue) : Type 0 where
  pub bytes : List ℕ
  pub all : Consumes source.bytes source'.bytes bytes
  pub end : IsAtEnd source'.bytes
  pub few : length bytes ≤ limit
  pub spells : live_of bytes ≡ Ok v
  pub reads : EndsAtFault ⊥ source.calls source'.calls
  pub calls : source'.calls.made ≤ source.calls.made + (limit + 1)

-- what a status says where no script was carried out: it is right for each sink that was left alone
abbrev pub IsRefused : ℕ → Ends → Ends → Status → Type 0
IsRefused limit source source' status =
    (sink : Ends) → IsEnding limit true source source' sink sink (Unit {0}) (Unit {0}) (ended_early status)
