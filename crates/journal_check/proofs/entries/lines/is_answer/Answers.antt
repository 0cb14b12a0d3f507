use Rattle.std.proofs.Common.{List, ℕ, [], ◌∷◌, ◌++◌, ap, ◌∙◌}
use Rattle.script_lines.specs.Lines.{lines_text}
use Rattle.script_lines.specs.Words.{same_word}
use Rattle.journal_text.specs.Spelled.{spelled_answer}
use Rattle.journal_check.proofs.entries.lines.is_answer.Goals as goal

pub returns : goal.returns
returns c =
    let line = lines_text (spelled_answer c.args.answer ∷ []) in
    let written = c.deref.ensures.value ∙ c.in_ok-write_answer.ensures.ok ∙ ap (λ (l : List ℕ). l ++ line) c.new-wanted.ensures.items in
    c.same_word.ensures
    ∙ ap (λ text. same_word c.args.line.now text) (c.without_end.ensures (spelled_answer c.args.answer) written)
