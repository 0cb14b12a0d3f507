use Rattle.std.proofs.Common.{◌≡◌, ◌+◌, ◌-◌, ◌∷◌, drop, length, take, ap, sym, ◌∙◌, arith}
use Rattle.std.proofs.lemmas.List.{length-drop, take_all}
use Rattle.line_text.specs.Parts.{parts}
use Rattle.line_text.proofs.FirstLine.{line_before, only_line}
use Rattle.line_text.proofs.parts.split_line.Goals as goal

pub returns-in-Some-clause-exact : goal.returns-in-Some-clause-exact
returns-in-Some-clause-exact c =
    let text = c.args.text.now in
    let at = c.in-Some.at in
    let rest = drop (at + 1) text in
    let all : take (length text - (at + 1)) rest ≡ rest = take_all (length text - (at + 1)) rest (omega (arith, length-drop (at + 1) text)) in
    line_before text at c.in-Some.ensures ∙ ap (λ t. take at text ∷ parts 10 t) (sym all)

pub returns-in-None-clause-exact : goal.returns-in-None-clause-exact
returns-in-None-clause-exact c = only_line c.args.text.now c.in-None.ensures
