-- Lists in JSON, and the texts of their items.
use Rattle.std.proofs.Common.{◌≡◌, ℕ, suc, ◌+◌, arith, List, [], ◌∷◌, ◌++◌, length, take, drop, codes, refl, ap, ◌∙◌, append_assoc}
use Rattle.std.specs.Prelude.{map, true, flat_map}
use Rattle.std.proofs.Math.Seq.{take-append_seam}
use Rattle.serde_json.specs.Data.{Data}
use Rattle.serde_json.specs.Written.{compact_text, items_text}
use Rattle.serde_json.specs.View.{items_of}
use Rattle.snapshot_print.specs.Json.{list_of}
use Rattle.snapshot_print.specs.Pieces.{piece}

items_are_pieces : {A : Type 0} → (value : A → Data) (xs : List A) → flat_map (λ x. piece (value x)) xs ++ codes "]" ≡ items_text true (items_of (map value xs))
items_are_pieces value [] = refl
items_are_pieces value (x ∷ xs) =
    append_assoc (piece (value x)) (flat_map (λ y. piece (value y)) xs) (codes "]") ∙ ap (λ t. piece (value x) ++ t) (items_are_pieces value xs)

-- the text of a list: the pieces of its items between brackets, without the first comma
pub list_of_pieces : {A : Type 0} → (value : A → Data) (xs : List A) → codes "[" ++ (drop 1 (flat_map (λ x. piece (value x)) xs) ++ codes "]") ≡ compact_text (list_of (map value xs))
list_of_pieces value [] = refl
list_of_pieces value (x ∷ xs) = ap (λ t. 91 ∷ t)
    (append_assoc (compact_text (value x)) (flat_map (λ y. piece (value y)) xs) (codes "]") ∙ ap (λ t. compact_text (value x) ++ t) (items_are_pieces value xs))

drop_past : (old text : List ℕ) → drop (length old + 1) (old ++ text) ≡ drop 1 text
drop_past [] text = refl
drop_past (c ∷ cs) text =
    let next : suc (length cs) + 1 ≡ suc (length cs + 1) = omega arith in
    ap (λ (n : ℕ). drop n (c ∷ (cs ++ text))) next ∙ drop_past cs text

-- pieces after a text, with brackets
pub list_closed : {A : Type 0} → (value : A → Data) (xs : List A) (start : ℕ) (old text : List ℕ) → start ≡ length old → text ≡ old ++ flat_map (λ x. piece (value x)) xs
    → take start text ++ (codes "[" ++ (drop (start + 1) text ++ codes "]")) ≡ old ++ compact_text (list_of (map value xs))
list_closed value xs start old text begins is =
    let pieces = flat_map (λ x. piece (value x)) xs in
    ap (λ (n : ℕ). take n text ++ (codes "[" ++ (drop (n + 1) text ++ codes "]"))) begins
    ∙ ap (λ (t : List ℕ). take (length old) t ++ (codes "[" ++ (drop (length old + 1) t ++ codes "]"))) is
    ∙ ap (λ (t : List ℕ). t ++ (codes "[" ++ (drop (length old + 1) (old ++ pieces) ++ codes "]"))) (take-append_seam old pieces)
    ∙ ap (λ (t : List ℕ). old ++ (codes "[" ++ (t ++ codes "]"))) (drop_past old pieces)
    ∙ ap (λ (t : List ℕ). old ++ t) (list_of_pieces value xs)
