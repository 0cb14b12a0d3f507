-- A touch line at the front of a live script is read as a touch of the last worker.
use Rattle.std.proofs.Common.{◌≡◌, ℕ, ◌+◌, nat_le, List, [], ◌∷◌, ◌++◌, length, Ok, refl, ap, ◌∙◌}
use Rattle.damon_types.specs.declared.space.Target.{Target}
use Rattle.line_text.specs.Parts.{parts}
use Rattle.script_lines.specs.declared.blocks.TheConstants.{MAX_TOUCHES}
use Rattle.script_lines.specs.declared.kind.ScriptKind.TheVariants.{TooMuch}
use Rattle.script_lines.specs.Blocks.{touched, touches_within}
use Rattle.script_lines.specs.Body.{command_line}
use Rattle.script_lines.specs.Command.{Touch}
use Rattle.script_lines.specs.Refusal.{◌>>=◌, only_if}
use Rattle.script_lines.specs.Touches.{BeginsWithTouch}
use Rattle.line_text.proofs.Lemmas.{parts_first}
use Rattle.script_lines.proofs.Lemmas.{lines_read_back}
use Rattle.damon_control.specs.declared.grammar.Grammar.TheVariants.{OfLive}
use Rattle.damon_control.specs.Live.{LiveValue, count_all}
use Rattle.damon_control.specs.LiveView.{touch_within, with_workers}
use Rattle.damon_control.specs.Script.{InBody, Place, at, reads}
use Rattle.damon_control.proofs.LeadingLive.{IsTouching, touching_read}
use Rattle.damon_control.proofs.LineWords.{command_begins, plain-IsPiece}
use Rattle.damon_control.proofs.LiveLemmas.{joined, touches_after}
use Rattle.damon_control.proofs.PartLemmas.{reads_line}

-- the pages of a line that is read as a touch
one_page_read : (space : List Target) (line : List ℕ) (before page : ℕ) → IsTouching space line (page ∷ []) → touches_within space line before ≡ touch_within page before
one_page_read space line before page is =
    ap (λ r. r >>= λ command. only_if (nat_le (before + length (touched command)) MAX_TOUCHES) TooMuch (touched command)) is.read
    ∙ ap (λ ps. only_if (nat_le (before + length ps) MAX_TOUCHES) TooMuch ps) is.touched_is

-- a text that begins with a touch is read as one more touch of the last worker and the rest
pub reads_live_touch : (space : List Target) (text : List ℕ) (page : ℕ) (rest : List ℕ) → BeginsWithTouch space text page rest
    → (n : ℕ) (v : LiveValue) (ws : List (List ℕ)) (t : List ℕ) → v.setup.space ≡ space
    → reads OfLive n (InBody (with_workers v (ws ++ t ∷ []))) (parts 10 text)
    ≡ (at n (touch_within page (count_all ws + length t)) >>= λ pages. reads OfLive (n + 1) (InBody (with_workers v (ws ++ (t ++ pages) ∷ []))) (parts 10 rest))
reads_live_touch space text page rest begins n v ws t same =
    let line = begins.line in
    let said : command_line space line ≡ Ok (Touch page) = lines_read_back.command space line (Touch page) begins.touch in
    let neither = command_begins space line (Touch page) said in
    let is = touching_read v.setup.space line (Touch page) refl (ap (λ targets. command_line targets line) same ∙ said) in
    let place : Place OfLive = InBody (with_workers v (ws ++ t ∷ [])) in
    let before = count_all ws + length t in
    ap (λ bytes. reads OfLive n place (parts 10 bytes)) begins.whole
    ∙ ap (reads OfLive n place) (parts_first 10 line rest (plain-IsPiece line neither.plain))
    ∙ reads_line OfLive n place line rest
    ∙ ap (λ r. at n r >>= λ next. reads OfLive (n + 1) next (parts 10 rest)) (touches_after v ws t line is.begins)
    ∙ joined n (touches_within v.setup.space line before) (λ pages. with_workers v (ws ++ (t ++ pages) ∷ [])) (λ next. reads OfLive (n + 1) next (parts 10 rest))
    ∙ ap (λ r. at n r >>= λ pages. reads OfLive (n + 1) (InBody (with_workers v (ws ++ (t ++ pages) ∷ []))) (parts 10 rest))
    (one_page_read v.setup.space line before page is)
