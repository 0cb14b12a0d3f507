-- Texts of lines, and what is appended to them or stands after them.
use Rattle.std.proofs.Common.{◌≡◌, ◌<◌, ℕ, zero, suc, ◌+◌, List, [], ◌∷◌, ◌++◌, All, drop, length, Some, refl, sym, ap, ◌∙◌, append_assoc, arith}
use Rattle.std.proofs.lemmas.List.{length-append}
use Rattle.std.proofs.lemmas.List.Elements.{All-append}
use Rattle.std.specs.Prelude.{slice_get}
use Rattle.line_text.specs.Parts.{IsPiece, joined, parts}
use Rattle.line_text.proofs.Lemmas.{joined-parts, parts-joined, parts_clean, parts_some}
use Rattle.script_lines.specs.Lines.{lines_text}

-- the text of lines and others is the two texts
pub lines_text-append : (front back : List (List ℕ)) → lines_text (front ++ back) ≡ lines_text front ++ lines_text back
lines_text-append [] back = refl
lines_text-append (line ∷ front) back =
    ap (λ t. line ++ 10 ∷ t) (lines_text-append front back)
    ∙ sym (append_assoc line (10 ∷ lines_text front) (lines_text back))

-- the element at an index is the first of those from there on
pub drop-at : {A : Type 0} (xs : List A) (i : ℕ) (x : A) → slice_get xs i ≡ Some x → drop i xs ≡ x ∷ drop (i + 1) xs
drop-at [] i x is = absurd cc
drop-at (y ∷ ys) zero x is = ap (λ z. z ∷ ys) cc
drop-at (y ∷ ys) (suc i) x is =
    let next : suc (i + 1) ≡ suc i + 1 = omega arith in
    drop-at ys i x is ∙ ap (λ k. x ∷ drop k (y ∷ ys)) next

-- lines were appended after others
pub lines_added : (text before : List ℕ) (a b : List (List ℕ)) → text ≡ before ++ lines_text a → text ++ lines_text b ≡ before ++ lines_text (a ++ b)
lines_added text before a b is =
    ap (λ t. t ++ lines_text b) is
    ∙ append_assoc before (lines_text a) (lines_text b)
    ∙ ap (λ t. before ++ t) (sym (lines_text-append a b))

-- the text of lines and then of pieces
pub joined_before : (lines pieces : List (List ℕ)) → 0 < length pieces → joined 10 (lines ++ pieces) ≡ lines_text lines ++ joined 10 pieces
joined_before [] pieces some = refl
joined_before (line ∷ []) [] some = absurd (omega arith)
joined_before (line ∷ []) (p ∷ pieces) some = sym (append_assoc line (10 ∷ []) (joined 10 (p ∷ pieces)))
joined_before (line ∷ next ∷ more) pieces some =
    ap (λ t. line ++ 10 ∷ t) (joined_before (next ∷ more) pieces some)
    ∙ sym (append_assoc line (10 ∷ lines_text (next ∷ more)) (joined 10 pieces))

-- lines without an LF before a text are its first parts
pub parts_before : (lines : List (List ℕ)) (bytes : List ℕ) → All (IsPiece 10) lines → parts 10 (lines_text lines ++ bytes) ≡ lines ++ parts 10 bytes
parts_before lines bytes each =
    ap (parts 10) (ap (λ t. lines_text lines ++ t) (sym (joined-parts 10 bytes)) ∙ sym (joined_before lines (parts 10 bytes) (parts_some 10 bytes)))
    ∙ by (lines ++ parts 10 bytes) (omega (arith, length-append lines (parts 10 bytes), parts_some 10 bytes)) (All-append (IsPiece 10) lines (parts 10 bytes) each (parts_clean 10 bytes))
  where
    by : (pieces : List (List ℕ)) → 0 < length pieces → All (IsPiece 10) pieces → parts 10 (joined 10 pieces) ≡ pieces
    by [] some each = absurd (omega arith)
    by (first ∷ others) some each = parts-joined 10 first others each
