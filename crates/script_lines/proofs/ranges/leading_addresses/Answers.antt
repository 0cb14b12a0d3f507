use Rattle.std.proofs.Common.{◌≡◌, ◌∷◌, ◌++◌, ap, sym, ◌∙◌, rules}
use Rattle.line_text.specs.Address.{spelled_address}
use Rattle.line_text.specs.Leading.{view_leading}
use Rattle.line_text.proofs.Lemmas.{leading_address-Some}
use Rattle.script_lines.proofs.ranges.leading_addresses.Goals as goal

pub returns-clause-spelled : goal.returns-clause-spelled
returns-clause-spelled c =
    let first = leading_address-Some c.in_ok-from.from c.args.text.now c.in_ok-from.words.now (sym c.leading_address.ensures ∙ ap view_leading c.in_ok-from.was) in
    let second : c.in_ok-from.words.now ≡ 32 ∷ c.in_ok-words.words.now = search rules in
    let third = leading_address-Some c.in_ok-to.to c.in_ok-words.words.now c.in_ok-to.words.now (sym c.leading_address-2.ensures ∙ ap view_leading c.in_ok-to.was) in
    let fourth : c.in_ok-to.words.now ≡ 32 ∷ c.in_ok-words-2.words.now = search rules in
    first.0 ∙ ap (λ ws. spelled_address c.in_ok-from.from ++ ws) (second ∙ ap (λ ws. 32 ∷ ws) (third.0 ∙ ap (λ ws. spelled_address c.in_ok-to.to ++ ws) fourth))
