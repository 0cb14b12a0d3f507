-- The lines of a head are taken one after another.
use Rattle.std.proofs.Common.{◌≡◌, ℕ, ◌+◌, List, [], ◌∷◌, ◌++◌, refl, sym, ap, ◌∙◌, append_assoc, length-append, arith}
use Rattle.journal_check.specs.declared.journal_lines.JournalLines.{JournalLines}
use Rattle.journal_check.specs.EndsOfText.{AreAllOthers, AreTaken, IsOther}
use Rattle.journal_check.specs.LinesLeft.{lines_left}
use Rattle.journal_text.proofs.Lemmas.{both_all}

-- no line was taken yet
pub none_taken : (lines : JournalLines) → AreTaken [] lines lines
none_taken lines = record { left = refl; number = omega arith; others = tt }

-- one more line was taken
pub more_taken : (old before after : JournalLines) (front : List (List ℕ)) (line : List ℕ) → AreTaken front old before → lines_left before ≡ line ∷ lines_left after
    → after.taken ≡ before.taken + 1 → IsOther line → AreTaken (front ++ line ∷ []) old after
more_taken old before after front line taken split number other = record {
  left = taken.left ∙ ap (λ ps. front ++ ps) split ∙ sym (append_assoc front (line ∷ []) (lines_left after));
  number = omega (arith, taken.number, number, length-append front (line ∷ []));
  others = both_all IsOther front (line ∷ []) taken.others (other, tt);
}

-- there are no more lines
pub all_taken : (old before : JournalLines) (front : List (List ℕ)) (last : List ℕ) → AreTaken front old before → lines_left before ≡ last ∷ [] → AreAllOthers front old
all_taken old before front last taken split = record { last = last; left = taken.left ∙ ap (λ ps. front ++ ps) split; others = taken.others }
