use Rattle.std.proofs.Common.{◌≡◌, ◌∷◌, [], ◌++◌, ap, ◌∙◌}
use Rattle.script_lines.specs.Lines.{lines_text}
use Rattle.script_lines.specs.Words.{same_word}
use Rattle.damon_control.specs.Written.{part_text}
use Rattle.journal_check.proofs.entries.calls.is_spelled.Goals as goal

pub returns : goal.returns
returns c =
    let text = part_text c.args.part.now in
    let written : c.deref.result.now ≡ lines_text (text ∷ []) =
    c.deref.ensures.value ∙ (c.in_ok-write_part.ensures.ok ∙ ap (λ t. t ++ lines_text (text ∷ [])) c.new-wanted.ensures.items)
    in
    c.same_word.ensures ∙ ap (same_word c.args.line.now) (c.without_end.ensures text written)
