use Rattle.std.proofs.Common.{◌≡◌, ◌++◌, codes, ap, sym, ◌∙◌}
use Rattle.std.specs.Option.{option_copied}
use Rattle.line_text.specs.Leading.{view_leading}
use Rattle.line_text.proofs.Lemmas.{after_prefix-Some, leading_address-Some}
use Rattle.journal_check.proofs.receipts.front.spaced_address.Goals as goal

pub returns : goal.returns
returns c =
    let text = c.args.text.now in
    let words = c.in_ok-words.words.now in
    let first : text ≡ codes " " ++ words = after_prefix-Some (codes " ") text words (sym c.strip.ensures.exact ∙ ap option_copied c.in_ok-words.was) in
    let second = leading_address-Some c.in_ok-addr.addr words c.in_ok-addr.rest.now (sym c.leading_address.ensures ∙ ap view_leading c.in_ok-addr.was) in
    first ∙ ap (λ t. codes " " ++ t) second.0
