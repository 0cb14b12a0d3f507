-- The status that an input has.
use Rattle.std.specs.Prelude.{ℕ, nat_lt, if◌then◌else◌, List, length, Result, Ok, Err}
use Rattle.damon_control.specs.Script.{script_of}
use Rattle.damon_control.specs.declared.fault.ScriptFault.{ScriptFault}
use Rattle.damon_admin.specs.Lines.{lines_said}
use Rattle.journal_text.specs.Place.{JournalRead}
use Rattle.journal_text.specs.Reading.{read_journal}
use Rattle.run_status.specs.declared.status.Status.{Status}
use Rattle.run_status.specs.declared.status.Status.TheVariants as statuses
use Rattle.damon_app.specs.declared.request.Request.{Request}
use Rattle.damon_app.specs.declared.request.Request.TheVariants.{Report, Verify, Heat, Admin, Generate}

-- the status of what a text spells: `Ok` for a script, or for the lines of several contexts, else its first fault
abbrev pub status_of_spelled : {A : Type 0} → Result A ScriptFault → Status
status_of_spelled (Ok said) = statuses.Ok
status_of_spelled (Err fault) = statuses.Script fault.line fault.kind

-- the status of what a journal text says: `Ok` for a lawful journal, else its first rejected line
abbrev pub status_of_journal : Result JournalRead ℕ → Status
status_of_journal (Ok said) = statuses.Ok
status_of_journal (Err line) = statuses.Unlawful line

-- the status of a text by what it is read for
abbrev pub status_of_text : Request → List ℕ → Status
status_of_text (Report run) bytes = status_of_spelled (script_of bytes)
status_of_text Verify bytes = status_of_journal (read_journal bytes)
status_of_text (Heat columns) bytes = status_of_journal (read_journal bytes)
status_of_text Admin bytes = status_of_spelled (lines_said bytes)
status_of_text (Generate n) bytes = statuses.Ok

-- the status of the bytes of an input, of which at most `limit` are allowed
abbrev pub status_of_input : Request → ℕ → List ℕ → Status
status_of_input request limit bytes = if nat_lt limit (length bytes) then statuses.TooLong else status_of_text request bytes
