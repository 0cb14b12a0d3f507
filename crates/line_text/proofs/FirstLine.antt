-- The first line of a text, by the place of its LF.
use Rattle.std.proofs.Common.{◌≡◌, ℕ, suc, ◌+◌, ◌<◌, List, [], ◌∷◌, ◌++◌, drop, get_or, length, take, sym, ap, ◌∙◌, arith}
use Rattle.std.proofs.Math.Seq.{split_at}
use Rattle.std.proofs.lemmas.Bool.Decides.{nat_tests}
use Rattle.std.proofs.lemmas.Grind.{get_or_default_zero}
use Rattle.std.proofs.lemmas.List.{get_or-take, length-take}
use Rattle.memchr.specs.Find.{NoneBefore, Nowhere, Passes, is_byte}
use Rattle.line_text.specs.Parts.{IsPiece, parts}
use Rattle.line_text.proofs.Separators.{parts_first, parts_none}

-- the bytes before a place have no LF, where none stands before it
piece_before : (text : List ℕ) (at : ℕ) → at < length text → Nowhere (Passes (is_byte 10) text) 0 at → IsPiece 10 (take at text)
piece_before text at inside none = λ k d below same.
    let less : k < at = omega (arith, below, length-take at text) in
    let here : get_or text k 0 ≡ 10 = sym (get_or_default_zero text k d (omega (arith, less, inside))) ∙ sym (get_or-take at text k d less) ∙ same in
    none k (omega arith) less (grind (arith, nat_tests, here))

-- where the first LF stands, the first line ends, and the others follow it
pub line_before : (text : List ℕ) (at : ℕ) → NoneBefore (Passes (is_byte 10) text) 0 (length text) at × Passes (is_byte 10) text at
    → parts 10 text ≡ take at text ∷ parts 10 (drop (at + 1) text)
line_before text at found =
    let inside = found.0.high in
    let line = take at text in
    let rest = drop (at + 1) text in
    let lf : get_or text at 0 ≡ 10 = grind (arith, nat_tests, found.1) in
    let after : suc at ≡ at + 1 = omega arith in
    let next : drop (suc at) text ≡ rest = ap (λ n. drop n text) after in
    let whole : text ≡ line ++ 10 ∷ rest = split_at text at 0 inside ∙ ap (λ c. line ++ c ∷ drop (suc at) text) lf ∙ ap (λ t. line ++ 10 ∷ t) next in
    ap (parts 10) whole ∙ parts_first 10 line rest (piece_before text at inside found.0.before)

-- a text without LF is one part
pub only_line : (text : List ℕ) → Nowhere (Passes (is_byte 10) text) 0 (length text) → parts 10 text ≡ text ∷ []
only_line text none = parts_none 10 text (λ k d below same.
    let here : get_or text k 0 ≡ 10 = sym (get_or_default_zero text k d below) ∙ same in
    none k (omega arith) below (grind (arith, nat_tests, here)))
