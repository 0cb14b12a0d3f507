use Rattle.std.proofs.Common.{[], ◌∷◌, ◌++◌, ap, ◌∙◌}
use Rattle.script_lines.specs.Lines.{lines_text}
use Rattle.script_lines.specs.WrittenLine.{change_text}
use Rattle.damon_control.proofs.WrittenLemmas.{without_end}
use Rattle.damon_control.proofs.head.spell.Goals as goal

pub returns : goal.returns
returns c =
    let text = c.write_change_line.new.out in
    let line = change_text c.args.change.now in
    c.pop.ensures.rest
    ∙ without_end text.len text.items line text.ok.0 (c.in_ok-write_change_line.ensures.ok ∙ ap (λ t. t ++ lines_text (line ∷ [])) c.new-text.ensures.items)
