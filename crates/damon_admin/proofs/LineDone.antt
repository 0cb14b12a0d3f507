-- A line that was done, and what is left to write.
use Rattle.std.proofs.Common.{◌≡◌, ℕ, List, [], ◌∷◌, ◌++◌, ◌∙◌, ap, append_assoc, sym}
use Rattle.damon_admin.specs.Admin.{AdminView, DoesLine, all_lines, left_text}
use Rattle.damon_admin.specs.Written.{line_text, texts_from}

-- where a line was done, the lines are the same, and so is what was written with what is left to write
pub line-done : (old new : AdminView) (before after : List ℕ) → DoesLine old new before after
    → (all_lines new ≡ all_lines old) × (after ++ left_text new ≡ before ++ left_text old)
line-done old new before after does =
    let l = does.line in
    let own = line_text (all_lines old) old.done l in
    let all : all_lines new ≡ all_lines old =
    ap (λ ls. ls ++ new.left) does.done
    ∙ append_assoc old.done (l ∷ []) new.left
    ∙ ap (λ ls. old.done ++ ls) (sym does.left) in (
      all,
      ap (λ t. t ++ left_text new) does.text
          ∙ append_assoc before own (left_text new)
          ∙ ap (λ ls. before ++ (own ++ texts_from ls new.done new.left)) all
          ∙ ap (λ ls. before ++ (own ++ texts_from (all_lines old) ls new.left)) does.done
          ∙ ap (λ ls. before ++ texts_from (all_lines old) old.done ls) (sym does.left),
    )
