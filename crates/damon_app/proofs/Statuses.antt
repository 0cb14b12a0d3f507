-- The status of an input, case by case.
use Rattle.std.proofs.Common.{◌≡◌, ℕ, ◌≤◌, ◌<◌, List, length, Option, Some, None, Result, Ok, Err, refl, ap, ◌∙◌, arith, length-append}
use Rattle.std.specs.Prelude.{◌↔◌, IfSome}
use Rattle.std.proofs.lemmas.Bool.{lt-ltb, le-ltb}
use Rattle.script_lines.specs.declared.kind.ScriptKind.{ScriptKind}
use Rattle.damon_control.specs.Script.{ScriptValue, script_of}
use Rattle.damon_control.specs.declared.fault.ScriptFault.{ScriptFault}
use Rattle.damon_admin.specs.Lines.{ContextLine, lines_said}
use Rattle.journal_text.specs.Place.{JournalRead}
use Rattle.journal_text.specs.Reading.{read_journal}
use Rattle.run_status.specs.declared.status.Status.TheVariants as statuses
use Rattle.damon_app.specs.declared.request.Run.{Run}
use Rattle.text_io.specs.Given.{GaveOver}
use Rattle.damon_app.specs.declared.request.Columns.{Columns}
use Rattle.damon_app.specs.declared.request.Request.{Request}
use Rattle.damon_app.specs.declared.request.Request.TheVariants.{Report, Verify, Heat, Admin, Generate}
use Rattle.damon_app.specs.Replay.{MayCome}
use Rattle.damon_app.specs.StatusOf.{status_of_input, status_of_journal, status_of_spelled, status_of_text}

-- known bytes of which more were given are more
pub had_over : (limit : ℕ) (a b : Option (List ℕ)) (P : List ℕ → Type 0) → GaveOver limit a b → ((bytes : List ℕ) → limit < length bytes → P bytes) → IfSome a P
had_over limit None b P gave long = tt
had_over limit (Some bytes) None P (given, over, all) long = absurd all
had_over limit (Some bytes) (Some rest) P (given, over, all) long = long bytes (omega (arith, over, ap length all, length-append given rest))

module _ (request : Request) (limit : ℕ) (bytes : List ℕ) where
  pub status_of_input-long : limit < length bytes → status_of_input request limit bytes ≡ statuses.TooLong
  status_of_input-long over = rw (lt-ltb limit (length bytes) over) refl

  pub status_of_input-short : length bytes ≤ limit → status_of_input request limit bytes ≡ status_of_text request bytes
  status_of_input-short few = rw (le-ltb limit (length bytes) few) refl

-- ---- refusals

-- a fault is its line and its kind
same_fault : (f g : ScriptFault) → f.line ≡ g.line → f.kind ≡ g.kind → f ≡ g
same_fault f g line kind = ap (λ (n : ℕ). record f { line = n }) line ∙ ap (λ (k : ScriptKind). record g { kind = k }) kind

-- the status of a text is a fault of a script exactly where the text has it
pub spelled_fault : {A : Type 0} (said : Result A ScriptFault) (fault : ScriptFault) → (status_of_spelled said ≡ statuses.Script fault.line fault.kind) ↔ (said ≡ Err fault)
spelled_fault (Ok s) fault = ((λ e. absurd (cc e)), (λ e. absurd (cc e)))
spelled_fault (Err f) fault = ((λ e. ap (λ g. Err g) (same_fault f fault (cc e) (cc e))), (λ e. ap status_of_spelled e))

-- the same of a journal's first rejected line
pub journal_line : (said : Result JournalRead ℕ) (line : ℕ) → (status_of_journal said ≡ statuses.Unlawful line) ↔ (said ≡ Err line)
journal_line (Ok x) line = ((λ e. absurd (cc e)), (λ e. absurd (cc e)))
journal_line (Err n) line = ((λ e. let same : n ≡ line = cc e in ap (λ k. Err k) same), (λ e. ap status_of_journal e))

-- ---- statuses that can come

spelled_comes : (run : Run) (said : Result ScriptValue ScriptFault) → MayCome (status_of_spelled said) (Some (Report run))
spelled_comes run (Ok s) = tt
spelled_comes run (Err fault) = tt

lines_come : (said : Result (List ContextLine) ScriptFault) → MayCome (status_of_spelled said) (Some Admin)
lines_come (Ok lines) = tt
lines_come (Err fault) = tt

journal_comes : (said : Result JournalRead ℕ) → MayCome (status_of_journal said) (Some Verify)
journal_comes (Ok said) = tt
journal_comes (Err line) = tt

heat_comes : (columns : Columns) (said : Result JournalRead ℕ) → MayCome (status_of_journal said) (Some (Heat columns))
heat_comes columns (Ok said) = tt
heat_comes columns (Err line) = tt

-- the status of a text can come of the request for which it is read
pub text_comes : (request : Request) (bytes : List ℕ) → MayCome (status_of_text request bytes) (Some request)
text_comes (Report run) bytes = spelled_comes run (script_of bytes)
text_comes Verify bytes = journal_comes (read_journal bytes)
text_comes (Heat columns) bytes = heat_comes columns (read_journal bytes)
text_comes Admin bytes = lines_come (lines_said bytes)
text_comes (Generate n) bytes = tt
