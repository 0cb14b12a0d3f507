use Rattle.std.proofs.Common.{◌++◌, decimal, ◌∙◌, ap, sym, rules, arith}
use Rattle.std.specs.Option.{option_copied}
use Rattle.line_text.specs.Leading.{view_leading}
use Rattle.line_text.proofs.Lemmas.{after_prefix-Some, leading_number-Some}
use Rattle.script_lines.proofs.touches.leading_target.Goals as goal

pub returns-clause-spelled : goal.returns-clause-spelled
returns-clause-spelled c =
    let word = c.args.word.now in
    let target = c.in_ok-target.target in
    let first = after_prefix-Some word c.args.text.now c.in_ok-words.words.now (sym c.strip.ensures.exact ∙ ap option_copied c.in_ok-words.was) in
    let second = leading_number-Some _ target c.in_ok-words.words.now c.in_ok-target.words.now (omega (arith, c.from.ensures))
    (sym c.leading_number.ensures.exact ∙ ap view_leading c.in_ok-target.was) in
    first ∙ ap (λ rest. word ++ rest) (second.0 ∙ ap (λ rest. decimal target ++ rest) (search rules))
