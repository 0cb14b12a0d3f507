-- A touch line at the front of a text is read as a touch.
use Rattle.std.proofs.Common.{◌≡◌, ℕ, ◌+◌, List, ◌∷◌, ◌++◌, codes, Ok, ap, ◌∙◌}
use Rattle.damon_types.specs.declared.space.Target.{Target}
use Rattle.line_text.specs.Parts.{parts}
use Rattle.script_lines.specs.Command.{CommandValue, Touch}
use Rattle.script_lines.specs.Body.{command_line}
use Rattle.damon_control.specs.declared.grammar.Grammar.TheVariants.{OfScript}
use Rattle.script_lines.specs.Refusal.{◌>>=◌}
use Rattle.damon_control.specs.Script.{Body, InBody, after_body, at, reads, with_command}
use Rattle.script_lines.specs.Touches.{BeginsWithTouch}
use Rattle.script_lines.specs.Words.{begins_with}
use Rattle.damon_control.proofs.LineWords.{BeginsNeither, command_begins, plain-IsPiece}
use Rattle.line_text.proofs.Lemmas.{parts_first}
use Rattle.script_lines.proofs.Lemmas.{lines_read_back}
use Rattle.damon_control.proofs.PartLemmas.{reads_line}
use Rattle.damon_control.proofs.Steps.{passed_over}

-- a line of a command goes on with the command
after_command : (b : Body) (line : List ℕ) (command : CommandValue) → BeginsNeither (codes "end") (codes "commit") line → command_line b.said.setup.space line ≡ Ok command
    → after_body b line ≡ with_command b command
after_command b line command neither said =
    passed_over (begins_with (codes "end") line) _ _ _ neither.not_first
    (passed_over (begins_with (codes "commit") line) _ _ _ neither.not_second (ap (λ r. r >>= with_command b) said))

-- a text that begins with a touch is read as the touch and the rest
pub reads_touch : (space : List Target) (text : List ℕ) (page : ℕ) (rest : List ℕ) → BeginsWithTouch space text page rest
    → (n : ℕ) (b : Body) → b.said.setup.space ≡ space
    → reads OfScript n (InBody b) (parts 10 text) ≡ (at n (with_command b (Touch page)) >>= λ next. reads OfScript (n + 1) next (parts 10 rest))
reads_touch space text page rest begins n b same =
    let line = begins.line in
    let said : command_line space line ≡ Ok (Touch page) = lines_read_back.command space line (Touch page) begins.touch in
    let neither = command_begins space line (Touch page) said in
    ap (λ bytes. reads OfScript n (InBody b) (parts 10 bytes)) begins.whole
    ∙ ap (reads OfScript n (InBody b)) (parts_first 10 line rest (plain-IsPiece line neither.plain))
    ∙ reads_line OfScript n (InBody b) line rest
    ∙ ap (λ r. at n r >>= λ next. reads OfScript (n + 1) next (parts 10 rest)) (after_command b line (Touch page) neither (ap (λ targets. command_line targets line) same ∙ said))
