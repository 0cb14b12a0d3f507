-- A well-formed line, byte for byte.
use Rattle.std.proofs.Common.{◌≡◌, ℕ, ◌<◌, Bool, true, false, not, ◌&&◌, ◌||◌, ◌==◌, cond, List, [], ◌∷◌, length, refl, sym, ap, ◌∙◌, arith}
use Rattle.std.specs.List.{list_all, onto_first}
use Rattle.std.proofs.lemmas.List.Splits.{length-slice_split}
use Rattle.line_text.specs.Parts.{is_plain, is_printable, is_word, parts}

-- whether the rest of a line may follow a byte that is a space or is not
abbrev pub goes_on : Bool → List ℕ → Bool
goes_on space [] = not space
goes_on space (c ∷ cs) = is_printable c && not (space && c == 0x20) && goes_on (c == 0x20) cs

-- no word is empty, except the first one where it continues after a byte that is not a space
words_from : Bool → List (List ℕ) → Bool
words_from space [] = true
words_from space (first ∷ others) = (not space || is_word first) && list_all is_word others

one_more : (prints space is_space all : Bool) (c : ℕ) (words : List (List ℕ)) → 0 < length words
    → (prints && not (space && is_space) && (all && words_from is_space words)) ≡ ((prints && all) && words_from space (cond is_space ([] ∷ words) (onto_first c words)))
unfolding words_from
one_more prints space is_space all c [] some = absurd (omega arith)
one_more false space is_space all c (first ∷ others) some = refl
one_more true true true true c (first ∷ others) some = refl
one_more true true true false c (first ∷ others) some = refl
one_more true false true all c (first ∷ others) some = refl
one_more true true false all c (first ∷ others) some = refl
one_more true false false all c (first ∷ others) some = refl

goes_on_is : (space : Bool) (bytes : List ℕ) → goes_on space bytes ≡ (list_all is_printable bytes && words_from space (parts 0x20 bytes))
unfolding words_from
goes_on_is true [] = refl
goes_on_is false [] = refl
goes_on_is space (c ∷ cs) =
    ap (λ rest. is_printable c && not (space && c == 0x20) && rest) (goes_on_is (c == 0x20) cs)
    ∙ one_more (is_printable c) space (c == 0x20) (list_all is_printable cs) c (parts 0x20 cs) (omega (arith, length-slice_split (λ b. b == 0x20) cs))

words_at_start : (words : List (List ℕ)) → words_from true words ≡ list_all is_word words
unfolding words_from
words_at_start [] = refl
words_at_start (first ∷ others) = refl

-- a line is plain if it may follow a space
pub is_plain-goes_on : (line : List ℕ) → is_plain line ≡ goes_on true line
is_plain-goes_on line = ap (λ rest. list_all is_printable line && rest) (sym (words_at_start (parts 0x20 line))) ∙ sym (goes_on_is true line)
