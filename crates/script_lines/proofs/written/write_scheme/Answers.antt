use Rattle.std.proofs.Common.{◌≡◌, ◌∙◌, ◌++◌, sym, append_assoc, ap, codes, List, ℕ}
use Rattle.std.specs.Fmt.{decimal}
use Rattle.std.proofs.lemmas.Result.{IfOk-equal}
use Rattle.script_lines.specs.KeysText.{keys_text}
use Rattle.damon_types.specs.Actions.{action_name}
use Rattle.script_lines.specs.Spelling.{spelled_scheme}
use Rattle.script_lines.specs.WrittenLine.{settings_given}
use Rattle.script_lines.proofs.WrittenKeys.{scheme_spelled}
use Rattle.script_lines.proofs.written.write_scheme.Goals as goal

regroup : (a b c d e f : List ℕ) → ((a ++ (b ++ c)) ++ (d ++ e)) ++ f ≡ a ++ (b ++ (c ++ (d ++ (e ++ f))))
regroup a b c d e f = simp append_assoc

pub returns-clause-ok : goal.returns-clause-ok
returns-clause-ok c =
    let settings = settings_given c.args.scheme.now in
    let action = c.args.scheme.now.action in
    let before = c.args.out.now.items in
    let joined : c.write_word.new.out.items ++ keys_text settings ≡ before ++ spelled_scheme c.args.slot action settings =
    ap (λ t. t ++ keys_text settings) c.in_ok-write_word.ensures.ok
    ∙ ap (λ t. (t ++ (codes " " ++ c.as_bytes.result.now)) ++ keys_text settings) c.in_ok-append_field.ensures.ok
    ∙ ap (λ n. ((before ++ (codes "scheme " ++ decimal n)) ++ (codes " " ++ c.as_bytes.result.now)) ++ keys_text settings) c.from.ensures
    ∙ ap (λ w. ((before ++ (codes "scheme " ++ decimal c.args.slot)) ++ (codes " " ++ w)) ++ keys_text settings) (c.as_bytes.ensures.value ∙ c.name.ensures.named)
    ∙ regroup before (codes "scheme ") (decimal c.args.slot) (codes " ") (action_name action) (keys_text settings)
    ∙ ap (λ t. before ++ t) (sym (scheme_spelled c.args.slot action settings))
    in
    IfOk-equal c.write_keys.result _ _ _ c.write_keys.ensures.ok joined
