use Rattle.std.proofs.Common.{◌≡◌, ◌∷◌, sym, ap, ◌∙◌}
use Rattle.std.specs.Option.{option_copied}
use Rattle.line_text.specs.Parts.{parts, parts_left}
use Rattle.damon_admin.specs.Lines.{split_from}
use Rattle.damon_admin.proofs.Taking.{front_dropped, front_used, header_right, header_wrong}
use Rattle.damon_admin.proofs.lines.read_header.Goals as goal

pub returns-then-not-same_word-clause-fault : goal.returns-then-not-same_word-clause-fault
returns-then-not-same_word-clause-fault c =
    let line = c.split_line.result.0.now in
    let rest = c.in-Some._rest.now in
    let is : parts 10 c.args.input.now ≡ line ∷ parts 10 rest = c.split_line.ensures.exact ∙ ap (λ r. line ∷ parts_left 10 (option_copied r)) c.in-Some.is in
    header_wrong c.args.input.now line rest is (sym c.same_word.ensures ∙ c.if-not-same_word.true)

pub returns-clause-inside : goal.returns-clause-inside
returns-clause-inside c =
    let line = c.split_line.result.0.now in
    let rest = c.in-Some._rest.now in
    let is : parts 10 c.args.input.now ≡ line ∷ parts 10 rest = c.split_line.ensures.exact ∙ ap (λ r. line ∷ parts_left 10 (option_copied r)) c.in-Some.is in
    front_used c.args.input.now line rest is

pub returns-clause-ok : goal.returns-clause-ok
returns-clause-ok c =
    let line = c.split_line.result.0.now in
    let rest = c.in-Some._rest.now in
    let is : parts 10 c.args.input.now ≡ line ∷ parts 10 rest = c.split_line.ensures.exact ∙ ap (λ r. line ∷ parts_left 10 (option_copied r)) c.in-Some.is in
    header_right c.args.input.now line rest is (sym c.same_word.ensures ∙ c.if-not-same_word.false)
    ∙ ap (λ t. split_from 2 (parts 10 t)) (sym (front_dropped c.args.input.now line rest is))
