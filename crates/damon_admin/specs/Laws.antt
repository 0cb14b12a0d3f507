-- What holds of the output of each input.
use Rattle.std.specs.Prelude.{◌≡◌, ℕ, ◌<◌, List, [], ◌∷◌, ◌++◌, Ok}
use Rattle.damon_core.specs.Bound.{Bound}
use Rattle.damon_control.specs.declared.grammar.Grammar.TheVariants.{OfScript}
use Rattle.damon_control.specs.Script.{Place, ScriptValue, script_of}
use Rattle.script_run.specs.Played.{up_to}
use Rattle.script_run.specs.Report.{last_state}
use Rattle.damon_admin.specs.Lines.{ContextLine, context_text, lines_of, lines_said}
use Rattle.damon_admin.specs.Voice.{voice}
use Rattle.damon_admin.specs.Written.{all_written, commands_at, gained, output_of, place_of, written}

-- each line of a context keeps what the lines before it have written, and adds what the context gains
abbrev pub EachLineAdds : List (List ℕ) → Type 0
EachLineAdds own =
    (done left : List (List ℕ)) (line : List ℕ) → own ≡ done ++ (line ∷ left)
    → written own (done ++ line ∷ []) ≡ written own done ++ gained own done line

-- the voice of a context in the output is all that its lines write, to which each line adds
pub record IsReport (context : ℕ) (lines : List ContextLine) : Type 0 where
  pub whole : voice context (output_of lines) ≡ all_written (context_text context lines)
  pub adds : EachLineAdds (lines_of context lines)

-- so it is with each context of an input
abbrev pub VoicesAreReports : Type 0
VoicesAreReports =
    (input : List ℕ) (lines : List ContextLine) → lines_said input ≡ Ok lines → (context : ℕ) → context < 8
    → IsReport context lines

-- what a context says follows from its own lines: the lines of other contexts change nothing of it
abbrev pub ContextsAreApart : Type 0
ContextsAreApart =
    (input other : List ℕ) (lines others : List ContextLine) → lines_said input ≡ Ok lines → lines_said other ≡ Ok others
    → (context : ℕ) → context < 8 → context_text context lines ≡ context_text context others
    → voice context (output_of lines) ≡ voice context (output_of others)

-- the first lines of a script lead to a place, and the state after the commands up to there is bound
pub record IsBoundAt (s : ScriptValue) (done : List (List ℕ)) : Type 0 where
  pub place : Place OfScript
  pub so_far : place_of done ≡ Ok place
  pub bound : Bound (last_state (up_to s (commands_at place)))

-- after each line of an input, so it is with each context whose lines are a script
abbrev pub ContextsAreBound : Type 0
ContextsAreBound =
    (input : List ℕ) (lines : List ContextLine) → lines_said input ≡ Ok lines → (context : ℕ) (s : ScriptValue)
    → script_of (context_text context lines) ≡ Ok s
    → (done left : List ContextLine) → lines ≡ done ++ left → IsBoundAt s (lines_of context done)
