use Rattle.std.proofs.Common.{◌≡◌, ◌++◌, ap, sym, ◌∙◌, arith}
use Rattle.line_text.specs.Leading.{view_leading}
use Rattle.std.specs.Option.{option_copied}
use Rattle.line_text.proofs.Lemmas.{after_prefix-Some, leading_number-Some}
use Rattle.journal_check.proofs.receipts.front.leading_field.Goals as goal

pub returns-clause-spelled : goal.returns-clause-spelled
returns-clause-spelled c =
    let text = c.args.text.now in
    let words = c.in_ok-words.words.now in
    let n = c.in_ok-number.number in
    let rest = c.in_ok-number.rest.now in
    let first : text ≡ c.args.name.now ++ words = after_prefix-Some c.args.name.now text words (sym c.strip.ensures.exact ∙ ap option_copied c.in_ok-words.was) in
    let second = leading_number-Some c.args.most n words rest (omega (arith, c.ranges.most.fits)) (sym c.leading_number.ensures.exact ∙ ap view_leading c.in_ok-number.was) in
    first ∙ ap (λ t. c.args.name.now ++ t) second.0
