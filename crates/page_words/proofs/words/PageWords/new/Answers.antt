use Rattle.std.proofs.Common.{◌≡◌, [], List, ℕ, replicate, rules, sym, ◌∙◌, subst}
use Rattle.atomic_table.specs.Table.{opening}
use Rattle.page_words.specs.declared.view.View.TheVariants.{Monitor}
use Rattle.page_words.specs.Rule.{WordRule}
use Rattle.page_words.proofs.Stepping.{opens}
use Rattle.page_words.proofs.words.PageWords.new.Goals as goal

pub of_words-requires : goal.of_words-requires
of_words-requires c =
    let zeros : c.in_ok-zeros.zeros.items ≡ replicate c.args.pages 0 = search rules in
    subst (λ (ws : List ℕ). WordRule {S = ℕ} c.args.pages (opening ws [] (Monitor [] 0))) (sym (c.as_slice.ensures.value ∙ zeros)) (opens c.args.pages)
