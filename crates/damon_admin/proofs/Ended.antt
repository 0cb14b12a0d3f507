-- Texts of whole lines: each is empty or ends with an LF.
use Rattle.std.proofs.Common.{◌≡◌, ℕ, ◌<◌, ◌==◌, Bool, true, false, cond, List, [], ◌∷◌, ◌++◌, length, refl, sym, ap, ◌∙◌, subst, arith, append_assoc, append-nil, ◌⊎◌, inl, inr}
use Rattle.std.specs.List.{flat_map, join_with_byte, onto_first}
use Rattle.std.proofs.lemmas.List.Splits.{join_with_byte-slice_split}
use Rattle.line_text.specs.Parts.{parts}
use Rattle.line_text.proofs.Lemmas.{parts_some}
use Rattle.script_lines.specs.Lines.{lines_text}
use Rattle.damon_admin.specs.Voice.{all_but_last, lines_in}

-- a text that ends with an LF
pub record EndsLine (text : List ℕ) : Type 0 where
  pub front : List ℕ
  pub is : text ≡ front ++ 10 ∷ []

-- a text of whole lines
abbrev pub IsEnded : List ℕ → Type 0
IsEnded text = (text ≡ []) ⊎ EndsLine text

-- ---- how such texts are put together

pub ends_after : (front text : List ℕ) → EndsLine text → EndsLine (front ++ text)
ends_after front text e = record { front = front ++ e.front; is = ap (λ t. front ++ t) e.is ∙ sym (append_assoc front e.front (10 ∷ [])) }

pub line_ends : EndsLine (10 ∷ [])
line_ends = record { front = []; is = refl }

-- the text of these parts of a line and its LF
abbrev pub ending : List (List ℕ) → List ℕ
ending [] = 10 ∷ []
ending (part ∷ parts) = part ++ ending parts

ending_ends : (fronts : List (List ℕ)) → EndsLine (ending fronts)
ending_ends [] = line_ends
ending_ends (part ∷ parts) = ends_after part (ending parts) (ending_ends parts)

-- so a line is whole
pub line_ended : (fronts : List (List ℕ)) → IsEnded (ending fronts)
line_ended fronts = inr (ending_ends fronts)

pub none_ended : IsEnded []
none_ended = inl refl

pub both_ended : (a b : List ℕ) → IsEnded a → IsEnded b → IsEnded (a ++ b)
both_ended a b first (inl none) = subst IsEnded (sym (append-nil a) ∙ ap (λ t. a ++ t) (sym none)) first
both_ended a b first (inr e) = inr (ends_after a b e)

pub flat_ended : {X : Type 0} (f : X → List ℕ) → ((x : X) → IsEnded (f x)) → (xs : List X) → IsEnded (flat_map f xs)
flat_ended f each [] = none_ended
flat_ended f each (x ∷ xs) = both_ended (f x) (flat_map f xs) (each x) (flat_ended f each xs)

-- ---- their lines

onto-append : (c : ℕ) (ps qs : List (List ℕ)) → 0 < length ps → onto_first c (ps ++ qs) ≡ onto_first c ps ++ qs
onto-append c [] qs some = absurd (omega arith)
onto-append c (p ∷ ps) qs some = refl

-- the parts on both sides of an LF
pub parts_seam : (front rest : List ℕ) → parts 10 (front ++ 10 ∷ rest) ≡ parts 10 front ++ parts 10 rest
parts_seam [] rest = refl
parts_seam (c ∷ cs) rest =
    ap (λ ps. cond (c == 10) ([] ∷ ps) (onto_first c ps)) (parts_seam cs rest) ∙ by (c == 10)
  where
    by : (t : Bool) → cond t ([] ∷ (parts 10 cs ++ parts 10 rest)) (onto_first c (parts 10 cs ++ parts 10 rest))
        ≡ cond t ([] ∷ parts 10 cs) (onto_first c (parts 10 cs)) ++ parts 10 rest
    by true = refl
    by false = onto-append c (parts 10 cs) (parts 10 rest) (parts_some 10 cs)

pub first_kept : (p : List ℕ) (ps : List (List ℕ)) → 0 < length ps → all_but_last (p ∷ ps) ≡ p ∷ all_but_last ps
first_kept p [] none = absurd (omega arith)
first_kept p (q ∷ qs) more = refl

all_but_last-append : (ps qs : List (List ℕ)) → 0 < length qs → all_but_last (ps ++ qs) ≡ ps ++ all_but_last qs
all_but_last-append [] qs some = refl
all_but_last-append (p ∷ ps) qs some = first_kept p (ps ++ qs) (longer ps) ∙ ap (λ ls. p ∷ ls) (all_but_last-append ps qs some)
  where
    longer : (ls : List (List ℕ)) → 0 < length (ls ++ qs)
    longer [] = some
    longer (l ∷ ls) = omega arith

-- the lines of a text that ends with an LF, and of what follows it
pub lines_in-after : (front rest : List ℕ) → lines_in (front ++ 10 ∷ rest) ≡ parts 10 front ++ lines_in rest
lines_in-after front rest = ap all_but_last (parts_seam front rest) ∙ all_but_last-append (parts 10 front) (parts 10 rest) (parts_some 10 rest)

-- lines of which each is a piece of a text, put together again
lines_text-joined : (ps : List (List ℕ)) → 0 < length ps → lines_text ps ≡ join_with_byte 10 ps ++ 10 ∷ []
lines_text-joined [] some = absurd (omega arith)
lines_text-joined (p ∷ []) some = refl
lines_text-joined (p ∷ q ∷ ps) some =
    ap (λ t. p ++ 10 ∷ t) (lines_text-joined (q ∷ ps) (omega arith)) ∙ sym (append_assoc p (10 ∷ join_with_byte 10 (q ∷ ps)) (10 ∷ []))

pub lines_text-parts : (front : List ℕ) → lines_text (parts 10 front) ≡ front ++ 10 ∷ []
lines_text-parts front = lines_text-joined (parts 10 front) (parts_some 10 front) ∙ ap (λ t. t ++ 10 ∷ []) (join_with_byte-slice_split 10 front)

-- the lines of whole lines are their text
pub lines_text-lines_in : (text : List ℕ) → IsEnded text → lines_text (lines_in text) ≡ text
lines_text-lines_in text (inl none) = ap (λ t. lines_text (lines_in t)) none ∙ sym none
lines_text-lines_in text (inr ends) =
    ap (λ t. lines_text (lines_in t)) ends.is
    ∙ ap lines_text (lines_in-after ends.front [] ∙ append-nil (parts 10 ends.front))
    ∙ lines_text-parts ends.front
    ∙ sym ends.is
