-- The clauses of the top call in one record, for the private functions below it. No public clause cites this file.
use Rattle.std.specs.Prelude.{◌≡◌, ◌≢◌, ◌↔◌, ℕ, ◌≤◌, ◌+◌, List, length, Option, Some, None, IfSome, IsSome}
use Rattle.std.specs.Io.KnownBytes.{Appends, Consumes, IsAtEnd}
use Rattle.damon_types.specs.Calls.{EndsAtFault, Rose}
use Rattle.damon_types.specs.declared.calls.Calls.{Calls}
use Rattle.damon_control.specs.Script.{ScriptValue}
use Rattle.damon_admin.specs.Admin.{AdminView, left_text}
use Rattle.damon_app.specs.declared.request.Run.{Run}
use Rattle.damon_app.specs.declared.request.Request.{Request}
use Rattle.damon_app.specs.declared.request.Request.TheVariants.{Report, Heat, Admin, Generate}
use Rattle.run_status.specs.declared.status.Status.{Status}
use Rattle.run_status.specs.declared.status.Status.TheVariants as statuses
use Rattle.text_io.specs.Given.{GaveOver}
use Rattle.damon_app.specs.Request.{ReadsInput}
use Rattle.text_io.specs.Ends.{Ends}
use Rattle.run_status.specs.Status.{IsRead, IsUnwritten}
use Rattle.damon_app.specs.StatusOf.{status_of_text}
use Rattle.damon_app.specs.Replay.{CallsFor, IsBegun, IsExpected, IsOfInput, MayCome, MayWrite, TellsFault, Wrote, report_of}
use Rattle.run_journal.specs.Aggregated.{aggregated}
use Rattle.journal_check.specs.Replayer.{Leads, ReplayerView}
use Rattle.journal_text.specs.Place.{JournalRead}
use Rattle.run_journal.specs.Replay.{replay}
use Rattle.damon_app.specs.declared.request.Columns.{Columns}
use Rattle.damon_app.specs.Generated.{gen_text}
use Rattle.damon_app.specs.Heating.{heat_text}

-- a source or a sink, by what it has left or took, and how often it was called
abbrev pub ends_of : {A : Type 0} → (A → Option (List ℕ)) → (A → Calls) → A → Ends
ends_of bytes calls end = record { bytes = bytes end; calls = calls end }

-- a status that refuses an input for what it says
abbrev pub IsRefusal : Status → Type 0
IsRefusal (statuses.Script line kind) = Unit {0}
IsRefusal (statuses.Unlawful line) = Unit {0}
IsRefusal _ = ⊥

-- the status refuses the bytes exactly where what they are read for does
abbrev pub RefusesAs : Request → Status → List ℕ → Type 0
RefusesAs request status bytes = (refusal : Status) → IsRefusal refusal → (status ≡ refusal) ↔ (status_of_text request bytes ≡ refusal)

-- what a status says of a request for which an input is read, where `same` is that the sink was left alone
pub record IsOutcome (limit : ℕ) (request : Request) (source source' sink sink' : Ends) (same : Type 0) (status : Status) : Type 0 where
  pub ok : status ≡ statuses.Ok → IfSome source.bytes (λ bytes. Wrote request bytes sink.bytes sink'.bytes)
  pub end : IsRead status → IsAtEnd source'.bytes
  pub complete : IsOfInput request status limit source.bytes (Rose source.calls source'.calls) (Rose sink.calls sink'.calls)
  pub too_long : status ≢ statuses.Memory → IsSome source.bytes
      → (status ≡ statuses.TooLong) ↔ GaveOver limit source.bytes source'.bytes
  pub refused : IsRead status → IfSome source.bytes (RefusesAs request status)
  pub reads : EndsAtFault (status ≡ statuses.ReadFault) source.calls source'.calls
  pub calls : source'.calls.made ≤ source.calls.made + (limit + 1)
  pub writes : EndsAtFault (status ≡ statuses.WriteFault) sink.calls sink'.calls
  pub asked : status ≢ statuses.Usage
  pub comes : MayCome status (Some request)
  pub unwritten : IsUnwritten status → same
  pub prefix : IfSome source.bytes (λ bytes. MayWrite request same bytes sink.bytes sink'.bytes)

-- the source was read to its end, and its bytes call for this text
pub record IsTaken (limit : ℕ) (request : Request) (source source' : Ends) (text : List ℕ) : Type 0 where
  pub bytes : List ℕ
  pub all : Consumes source.bytes source'.bytes bytes
  pub end : IsAtEnd source'.bytes
  pub few : length bytes ≤ limit
  pub wanted : CallsFor request bytes text
  pub status : status_of_text request bytes ≡ statuses.Ok
  pub reads : EndsAtFault ⊥ source.calls source'.calls
  pub calls : source'.calls.made ≤ source.calls.made + (limit + 1)

-- what a status says where the input was not taken: it is right for each sink that was left alone
abbrev pub IsRefused : ℕ → Request → Ends → Ends → Status → Type 0
IsRefused limit request source source' status = (sink : Ends) → IsOutcome limit request source source' sink sink (Unit {0}) status

-- the source was read to its end, and its bytes spell this script
abbrev pub IsScriptTaken : ℕ → Ends → Ends → ScriptValue → Type 0
IsScriptTaken limit source source' script = (run : Run) → IsTaken limit (Report run) source source' (report_of run script)

-- what a status says where no script was read, however it was to be run
abbrev pub IsScriptRefused : ℕ → Ends → Ends → Status → Type 0
IsScriptRefused limit source source' status = (run : Run) → IsRefused limit (Report run) source source' status

-- the source was read to its end, and its bytes are the text of a lawful journal, of which the replay leads through these states
pub record IsRunTaken (limit : ℕ) (source source' : Ends) (r : ReplayerView) : Type 0 where
  pub said : JournalRead
  pub leads : Leads (aggregated said.live said.journal) (replay said.live said.journal).state r
  pub taken : (columns : Columns) → IsTaken limit (Heat columns) source source' (heat_text columns said)

-- what a status says where no journal was read, whatever the number of columns
abbrev pub IsRunRefused : ℕ → Ends → Ends → Status → Type 0
IsRunRefused limit source source' status = (columns : Columns) → IsRefused limit (Heat columns) source source' status

-- the source was read to its end, and its bytes call for what these contexts have left to write
abbrev pub AreContextsTaken : ℕ → Ends → Ends → AdminView → Type 0
AreContextsTaken limit source source' contexts = IsTaken limit Admin source source' (left_text contexts)

-- what a status says of what was asked for, where `alone` and `same` are that the source and the sink were left alone
pub record IsAnswer (limit : ℕ) (request : Option Request) (source source' sink sink' : Ends) (alone same : Type 0) (status : Status) : Type 0 where
  pub wrote : (wanted : Request) → status ≡ statuses.Ok → request ≡ Some wanted
      → IfSome source.bytes (λ bytes. Wrote wanted bytes sink.bytes sink'.bytes)
  pub summary : (n : ℕ) → status ≡ statuses.Ok → request ≡ Some (Generate n) → Appends sink.bytes sink'.bytes (gen_text n)
  pub end : ReadsInput request → IsRead status → IsAtEnd source'.bytes
  pub complete : IsExpected request status limit source.bytes (Rose source.calls source'.calls) (Rose sink.calls sink'.calls)
  pub usage : status ≢ statuses.Memory → (status ≡ statuses.Usage) ↔ (request ≡ None)
  pub comes : MayCome status request
  pub too_long : status ≢ statuses.Memory → IsSome source.bytes
      → (status ≡ statuses.TooLong) ↔ GaveOver limit source.bytes source'.bytes
  pub refused : ReadsInput request → IsRead status → IfSome source.bytes (TellsFault request status)
  pub reads : EndsAtFault (status ≡ statuses.ReadFault) source.calls source'.calls
  pub calls : source'.calls.made ≤ source.calls.made + (limit + 1)
  pub writes : EndsAtFault (status ≡ statuses.WriteFault) sink.calls sink'.calls
  pub unread : (ReadsInput request → ⊥) → alone
  pub unwritten : IsUnwritten status → same
  pub prefix : IsBegun request same source.bytes sink.bytes sink'.bytes
