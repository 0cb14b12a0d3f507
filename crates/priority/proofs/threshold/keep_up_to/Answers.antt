use Rattle.std.proofs.Common.{rules, ◌∙◌, ap, arith}
use Rattle.std.specs.Prelude.{nat_le, not}
use Rattle.std.proofs.lemmas.Bool.Decides.{nat_tests}
use Rattle.std.proofs.lemmas.Fn.{filter_same}
use Rattle.priority.specs.Kept.{up_to}
use Rattle.priority.specs.Order.{is_before}
use Rattle.priority.proofs.DropLemmas.{filter_twice}
use Rattle.priority.proofs.threshold.keep_up_to.Goals as goal

pub returns-clause-items : goal.returns-clause-items
returns-clause-items c =
    let last = c.args.last.now in
    let scored = filter_same _ (λ x. nat_le last.score x.score) _ (λ x b f' r. search rules) _ _ c.retain.ensures.filtered in
    let kept = filter_same _ (λ x. not (is_before last x)) _ (λ x b f' r. search rules) _ _ c.retain-2.ensures.filtered in
    kept ∙ ap (up_to last) scored ∙ filter_twice (λ x. nat_le last.score x.score) (λ x. not (is_before last x)) c.args.items.now.items (λ x low. grind (arith, nat_tests))
