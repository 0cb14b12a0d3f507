-- What is left of a text.
use Rattle.std.specs.Prelude.{◌≡◌, ℕ, ◌+◌, ◌≤◌, Bool, true, false, ◌||◌, ◌==◌, List, [], ◌∷◌, length, Result, Ok, Err}
use Rattle.line_text.specs.Parts.{parts}
use Rattle.damon_control.specs.declared.fault.ReadFail.{ReadFail}
use Rattle.damon_control.specs.declared.fault.ReadFail.TheVariants.{Script, Memory}
use Rattle.damon_control.specs.declared.fault.ScriptFault.{ScriptFault}
use Rattle.damon_control.specs.declared.lines.Lines.{Lines}
use Rattle.damon_control.specs.declared.reader.TheConstants.{MAX_BYTES}
use Rattle.live_commit.specs.Commit.{CommitValue}
use Rattle.damon_control.specs.declared.grammar.Grammar.{Grammar}
use Rattle.damon_control.specs.declared.grammar.Grammar.TheVariants.{OfScript}
use Rattle.script_lines.specs.Command.{CommandValue}
use Rattle.damon_control.specs.Script.{AtEnd, Body, Place, Said, ScriptValue, Within, at, place_after, reads, with_command, with_commit}
use Rattle.script_lines.specs.Refusal.{◌>>=◌}
use Rattle.script_lines.specs.Words.{begins_with}

-- the lines that were taken and the bytes that are left are together at most MAX_BYTES
abbrev pub IsShort : Lines → Type 0
IsShort lines = lines.taken + length lines.rest.now ≤ MAX_BYTES

-- what is said from a place on by the lines that are left
abbrev pub reads_left : (g : Grammar) → Place g → Lines → Result (Said g) ScriptFault
reads_left g place lines = reads g (lines.taken + 1) place (parts 10 lines.rest.now)

-- a reader goes from a place to another: what the text still says is the same before and after
abbrev pub MovesTo : (g : Grammar) → Place g → Lines → Place g → Lines → Type 0
MovesTo g place old next new = reads_left g place old ≡ reads_left g next new

-- what is said from a place on by a line and those that are left after it
abbrev pub reads_on : (g : Grammar) → Place g → List ℕ → Lines → Result (Said g) ScriptFault
reads_on g place line lines = at lines.taken (place_after g place line) >>= λ next. reads_left g next lines

-- a place that wants a line
abbrev pub IsOpen : {g : Grammar} → Place g → Type 0
IsOpen (AtEnd s) = ⊥
IsOpen _ = Unit {0}

-- whether there is a line, and this is the first word of the first
abbrev pub begins_lines : List ℕ → List (List ℕ) → Bool
begins_lines word [] = false
begins_lines word (bytes ∷ []) = false
begins_lines word (line ∷ next ∷ more) = begins_with word line

-- whether a text has a line, and this is the first word of the first
abbrev pub first_begins : List ℕ → List ℕ → Bool
first_begins word text = begins_lines word (parts 10 text)

-- a line of this kind is read next: the next line begins with its word, or no line of the kind was read yet
abbrev pub IsWanted : List ℕ → ℕ → Lines → Type 0
IsWanted word count lines = (first_begins word lines.rest.now || (count == 0)) ≡ true

-- a fault that is returned is the fault of the text; out of memory says nothing of the text
abbrev pub FaultOf : {T V : Type 0} → Result T ReadFail → Result V ScriptFault → Type 0
FaultOf (Ok value) said = Unit {0}
FaultOf (Err Memory) said = Unit {0}
FaultOf (Err (Script fault)) said = said ≡ Err fault

-- what is said by a commit, whose last line was taken, and the lines that are left after it
abbrev pub reads_commit : (g : Grammar) → Within g → CommitValue → Lines → Result (Said g) ScriptFault
reads_commit g b commit lines = at lines.taken (with_commit g b commit) >>= λ next. reads_left g next lines

-- what is said by a command of a script, whose last line was taken, and the lines that are left after it
abbrev pub reads_command : Body → CommandValue → Lines → Result ScriptValue ScriptFault
reads_command b command lines = at lines.taken (with_command b command) >>= λ next. reads_left OfScript next lines
