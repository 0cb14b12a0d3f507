-- What a context writes at each of its lines.
use Rattle.std.specs.Prelude.{ℕ, ◌==◌, List, [], ◌∷◌, ◌++◌, drop, length, codes, Result, Ok, Err, if◌then◌else◌}
use Rattle.std.specs.Fmt.{decimal}
use Rattle.script_lines.specs.declared.kind.ScriptKind.{ScriptKind}
use Rattle.script_lines.specs.Command.{CommandValue}
use Rattle.script_lines.specs.KindText.{kind_text}
use Rattle.script_lines.specs.Lines.{lines_text}
use Rattle.script_lines.specs.Refusal.{◌>>=◌}
use Rattle.snapshot_print.specs.Fields.{◌then◌}
use Rattle.snapshot_print.specs.Lines.{as_text}
use Rattle.damon_control.specs.declared.fault.ScriptFault.{ScriptFault}
use Rattle.damon_control.specs.declared.grammar.Grammar.TheVariants.{OfScript}
use Rattle.damon_control.specs.Script.{AtEnd, AtHeader, InBody, InCommit, Place, ScriptValue, place_after, script_of}
use Rattle.script_run.specs.Played.{commands_text, up_to}
use Rattle.script_run.specs.Report.{report}
use Rattle.damon_admin.specs.Lines.{ContextLine, lines_of}
use Rattle.damon_admin.specs.Voice.{spoken}

-- the line of a context whose lines are no script
abbrev pub fault_line : ScriptFault → List ℕ
fault_line fault = codes "fault line=" then decimal fault.line then codes " " then kind_text fault.kind then codes "\n"

-- what is written where lines say a script, or have a fault: its report, or the line of the fault
abbrev pub told : Result ScriptValue ScriptFault → List ℕ
told (Ok s) = report as_text s
told (Err fault) = fault_line fault

-- All that a context writes whose lines are this text: the report of the script that it spells, or the line of its fault; and
-- nothing where it has no lines.
abbrev pub all_written : List ℕ → List ℕ
all_written [] = []
all_written (byte ∷ bytes) = told (script_of (byte ∷ bytes))

-- the place to which lines lead, from a place on
abbrev pub place_from : Place OfScript → List (List ℕ) → Result (Place OfScript) ScriptKind
place_from place [] = Ok place
place_from place (line ∷ lines) = place_after OfScript place line >>= λ next. place_from next lines

-- the place to which the first lines of a script lead
abbrev pub place_of : List (List ℕ) → Result (Place OfScript) ScriptKind
place_of lines = place_from AtHeader lines

-- the commands that the lines up to a place have said
abbrev pub commands_at : Place OfScript → List CommandValue
commands_at (InBody b) = b.said.commands
commands_at (InCommit b commit) = b.said.commands
commands_at (AtEnd s) = s.commands
commands_at _ = []

-- what a script has written at a place: the text of the commands so far, and at its end the whole report
abbrev pub written_at : ScriptValue → Place OfScript → List ℕ
written_at s (AtEnd said) = report as_text s
written_at s place = commands_text as_text (up_to s (commands_at place))

-- the same where the lines so far lead to a place
abbrev pub written_where : ScriptValue → Result (Place OfScript) ScriptKind → List ℕ
written_where s (Ok place) = written_at s place
written_where s (Err kind) = []

-- what lines that say a script, or have a fault, have written after the first of them
abbrev pub written_as : (own done : List (List ℕ)) → Result ScriptValue ScriptFault → List ℕ
written_as own done (Ok s) = written_where s (place_of done)
written_as own done (Err fault) = if length done == length own then fault_line fault else []

-- What a context with the lines `own` has written after the first of them, `done`. A context whose lines are no script writes
-- after the last of them alone.
abbrev pub written : (own done : List (List ℕ)) → List ℕ
written own done = written_as own done (script_of (lines_text own))

-- what a context gains with a line: what it has written after the line, without what it had written before
abbrev pub gained : (own done : List (List ℕ)) → List ℕ → List ℕ
gained own done line = drop (length (written own done)) (written own (done ++ line ∷ []))

-- What a line of the input writes, where `done` are the lines before it and `all` are all: what its context gains, as the context
-- says it.
abbrev pub line_text : (all done : List ContextLine) → ContextLine → List ℕ
line_text all done l = spoken l.context (gained (lines_of l.context all) (lines_of l.context done) l.line)

-- what the lines that are left write, one after another, after the lines before them
abbrev pub texts_from : (all done left : List ContextLine) → List ℕ
texts_from all done [] = []
texts_from all done (l ∷ left) = line_text all done l ++ texts_from all (done ++ l ∷ []) left

-- the output of an input that says these lines
abbrev pub output_of : List ContextLine → List ℕ
output_of lines = texts_from lines [] lines
