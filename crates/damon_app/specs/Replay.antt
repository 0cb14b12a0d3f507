-- What the program makes of what it was asked for.
use Rattle.std.specs.Prelude.{◌≡◌, ◌⊎◌, ◌↔◌, ℕ, List, Option, Some, None, Ok, Err, IfSome}
use Rattle.std.specs.List.{AllByRecursion}
use Rattle.std.specs.Io.KnownBytes.{Appends}
use Rattle.damon_control.specs.Script.{ScriptValue, script_of}
use Rattle.damon_control.specs.Text.{IsText}
use Rattle.damon_control.specs.declared.fault.ScriptFault.{ScriptFault}
use Rattle.snapshot_print.specs.Forms.{writing_of}
use Rattle.script_run.specs.Report.{report}
use Rattle.reclaim_run.specs.Reclaimed.{reclaimed_report}
use Rattle.tune_run.specs.Report.{tuned_report}
use Rattle.damon_app.specs.Generated.{gen_text}
use Rattle.journal_text.specs.Reading.{read_journal}
use Rattle.run_status.specs.Status.{IsFailure}
use Rattle.journal_check.specs.Verified.{IsRunText, IsVerified}
use Rattle.journal_text.specs.Place.{JournalRead}
use Rattle.run_journal.specs.Aggregated.{aggregated}
use Rattle.run_journal.specs.declared.lawful.Lawful.{Lawful}
use Rattle.damon_app.specs.Request.{ReadsJournal, ReadsScript}
use Rattle.damon_app.specs.StatusOf.{status_of_input}
use Rattle.damon_admin.specs.Lines.{ContextLine, lines_said}
use Rattle.damon_admin.specs.Written.{output_of}
use Rattle.damon_app.specs.Heating.{AddUp, columns_in, heat_text}
use Rattle.damon_app.specs.Verifying.{counts_line}
use Rattle.text_io.specs.Taken.{WritesPart}
use Rattle.damon_app.specs.declared.request.Run.{Run}
use Rattle.damon_app.specs.declared.request.Run.TheVariants.{Plain, Reclaim, Tune}
use Rattle.damon_app.specs.declared.request.Request.{Request}
use Rattle.damon_app.specs.declared.request.Request.TheVariants.{Report, Verify, Heat, Admin, Generate}
use Rattle.run_status.specs.declared.status.Status.{Status}
use Rattle.run_status.specs.declared.status.Status.TheVariants as statuses

-- the report of a script that is run like this: as it stands, over a model of resident pages, or with quotas that follow goals
abbrev pub report_of : Run → ScriptValue → List ℕ
report_of (Plain form) s = report (writing_of form) s
report_of Reclaim s = reclaimed_report s
report_of (Tune goals) s = tuned_report goals s

-- The bytes spell a script, and the sink gained exactly this report of it.
pub record Reports (report_of : ScriptValue → List ℕ) (bytes : List ℕ) (old new : Option (List ℕ)) : Type 0 where
  pub script : ScriptValue
  pub spells : IsText bytes script
  pub report : Appends old new (report_of script)

-- The bytes of an input call for this text: the report of the script that they spell, the line of the lawful journal of which they are
-- the text, its heat tables, whose numbers add up, or the output of the contexts whose lines they are. A generated run has one text.
abbrev pub CallsFor : Request → (bytes text : List ℕ) → Type 0
CallsFor (Report run) bytes text = (s : ScriptValue) × IsText bytes s × (report_of run s ≡ text)
CallsFor Verify bytes text = (counts : Lawful) × IsVerified bytes counts × (counts_line counts ≡ text)
CallsFor (Heat columns) bytes text =
    (said : JournalRead) × IsRunText bytes said × (heat_text columns said ≡ text)
    × AllByRecursion (AddUp (columns_in columns)) (aggregated said.live said.journal)
CallsFor Admin bytes text = (lines : List ContextLine) × (lines_said bytes ≡ Ok lines) × (output_of lines ≡ text)
CallsFor (Generate n) bytes text = gen_text n ≡ text

-- the sink gained exactly a text that the bytes call for
abbrev pub Wrote : Request → List ℕ → Option (List ℕ) → Option (List ℕ) → Type 0
Wrote request bytes old new = (text : List ℕ) × CallsFor request bytes text × Appends old new text

-- the sink was left alone, which is `same`, or it gained a prefix of such a text
abbrev pub MayWrite : Request → Type 0 → List ℕ → Option (List ℕ) → Option (List ℕ) → Type 0
MayWrite request same bytes old new = same ⊎ ((text : List ℕ) × CallsFor request bytes text × WritesPart old new text)

-- the sink was left alone, or it gained a prefix of what was asked for
abbrev pub IsBegun : Option Request → Type 0 → (input old new : Option (List ℕ)) → Type 0
IsBegun None same input old new = same
IsBegun (Some (Generate n)) same input old new = WritesPart old new (gen_text n)
IsBegun (Some request) same input old new = IfSome input (λ bytes. MayWrite request same bytes old new)

-- the status is the one of the input, of which at most `limit` bytes are allowed, or a failure
abbrev pub IsOfInput : Request → Status → ℕ → Option (List ℕ) → Type 0 → Type 0 → Type 0
IsOfInput request status limit input read write =
    IfSome input (λ bytes. (status ≡ status_of_input request limit bytes) ⊎ IsFailure status read write)

-- The status is the one that is expected, or a failure: for a report, a check, tables or contexts, of which the input may have at most
-- `limit` bytes, the status of the input; for a generated run, in which no read can fail, `Ok`; for other words, where nothing is
-- read or written, `Usage`.
abbrev pub IsExpected : Option Request → Status → ℕ → Option (List ℕ) → Type 0 → Type 0 → Type 0
IsExpected None status limit input read write = (status ≡ statuses.Usage) ⊎ IsFailure status ⊥ ⊥
IsExpected (Some (Generate n)) status limit input read write = (status ≡ statuses.Ok) ⊎ IsFailure status ⊥ write
IsExpected (Some request) status limit input read write = IsOfInput request status limit input read write

-- the status refuses the text exactly where the bytes have this fault of a script, this first refused line of several contexts, or this
-- first rejected line of a journal
abbrev pub TellsFault : Option Request → Status → List ℕ → Type 0
TellsFault (Some (Report run)) status bytes =
    (fault : ScriptFault) → (status ≡ statuses.Script fault.line fault.kind) ↔ (script_of bytes ≡ Err fault)
TellsFault (Some Verify) status bytes = (line : ℕ) → (status ≡ statuses.Unlawful line) ↔ (read_journal bytes ≡ Err line)
TellsFault (Some (Heat columns)) status bytes = (line : ℕ) → (status ≡ statuses.Unlawful line) ↔ (read_journal bytes ≡ Err line)
TellsFault (Some Admin) status bytes =
    (fault : ScriptFault) → (status ≡ statuses.Script fault.line fault.kind) ↔ (lines_said bytes ≡ Err fault)
TellsFault _ status bytes = Unit {0}

-- a status that what was asked for can have: a fault of a script only where one or several are read, a rejected line of a journal only
-- where its text is read, and none that is of live scripts
abbrev pub MayCome : Status → Option Request → Type 0
MayCome (statuses.Script line kind) request = ReadsScript request
MayCome (statuses.Unlawful line) request = ReadsJournal request
MayCome (statuses.TooManyPasses passes cap) request = ⊥
MayCome _ request = Unit {0}
