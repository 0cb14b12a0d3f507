-- The parts of bytes, taken from the front.
use Rattle.std.proofs.Common.{◌≡◌, ◌≢◌, ◌<◌, ℕ, arith, length, Bool, true, false, cond, List, [], ◌∷◌, ◌++◌, ◌==◌, Some, None, refl, ap, ◌∙◌, All, eq-eqb}
use Rattle.std.specs.List.{onto_first}
use Rattle.std.proofs.lemmas.Bool.Decides.{nat_tests}
use borrow.Author.Tests.{ne_eqb}
use Rattle.std.proofs.lemmas.List.Elements.{All-weaker, All-nil, All-cons, All-head, All-tail}
use Rattle.std.proofs.lemmas.List.Splits.{slice_split_none, slice_split_at, join_with_byte-slice_split, length-slice_split}
use Rattle.line_text.specs.Line.{split_at_byte}
use Rattle.line_text.specs.Parts.{IsPiece, joined, parts}
use Rattle.line_text.proofs.Pieces.{split_at_byte-Some, split_at_byte-None}

differs : (separator : ℕ) (piece : List ℕ) → IsPiece separator piece → All (λ c. (c == separator) ≡ false) piece
differs separator piece none = All-weaker (λ c. c ≢ separator) (λ c. (c == separator) ≡ false) (λ c other. ne_eqb c separator other) piece none

-- bytes without a separator are the one part
pub parts_none : (separator : ℕ) (bytes : List ℕ) → IsPiece separator bytes → parts separator bytes ≡ bytes ∷ []
parts_none separator bytes none = slice_split_none (λ c. c == separator) bytes (differs separator bytes none)

-- a piece without a separator, followed by one, is the first part
pub parts_first : (separator : ℕ) (piece rest : List ℕ) → IsPiece separator piece → parts separator (piece ++ separator ∷ rest) ≡ piece ∷ parts separator rest
parts_first separator piece rest none = slice_split_at (λ c. c == separator) piece separator rest (differs separator piece none) (eq-eqb separator separator refl)

pub parts-split_at_byte-Some : (separator : ℕ) (bytes piece rest : List ℕ) → split_at_byte separator bytes ≡ Some (piece, rest) → parts separator bytes ≡ piece ∷ parts separator rest
parts-split_at_byte-Some separator bytes piece rest e = let told = split_at_byte-Some separator bytes piece rest e in ap (parts separator) told.0 ∙ parts_first separator piece rest told.1

pub parts-split_at_byte-None : (separator : ℕ) (bytes : List ℕ) → split_at_byte separator bytes ≡ None → parts separator bytes ≡ bytes ∷ []
parts-split_at_byte-None separator bytes e = parts_none separator bytes ((split_at_byte-None separator bytes).0 e)

-- bytes have at least one part
pub parts_some : (separator : ℕ) (bytes : List ℕ) → 0 < length (parts separator bytes)
parts_some separator bytes = omega (arith, length-slice_split (λ c. c == separator) bytes)

-- pieces that are joined are taken apart again
pub parts-joined : (separator : ℕ) (first : List ℕ) (others : List (List ℕ)) → All (IsPiece separator) (first ∷ others)
    → parts separator (joined separator (first ∷ others)) ≡ first ∷ others
parts-joined separator first [] none = parts_none separator first (All-head (IsPiece separator) first [] none)
parts-joined separator first (next ∷ others) none =
    parts_first separator first (joined separator (next ∷ others)) (All-head (IsPiece separator) first (next ∷ others) none)
    ∙ ap (λ pieces. first ∷ pieces) (parts-joined separator next others (All-tail (IsPiece separator) first (next ∷ others) none))

clean_more : (separator c : ℕ) (pieces : List (List ℕ)) → c ≢ separator → All (IsPiece separator) pieces → All (IsPiece separator) (onto_first c pieces)
clean_more separator c [] other none =
    All-cons (IsPiece separator) (c ∷ []) [] (All-cons (λ b. b ≢ separator) c [] other (All-nil (λ b. b ≢ separator))) none
clean_more separator c (first ∷ others) other none =
    All-cons (IsPiece separator) (c ∷ first) others
    (All-cons (λ b. b ≢ separator) c first other (All-head (IsPiece separator) first others none))
    (All-tail (IsPiece separator) first others none)

-- no part has the separator
pub parts_clean : (separator : ℕ) (bytes : List ℕ) → All (IsPiece separator) (parts separator bytes)
parts_clean separator [] = All-cons (IsPiece separator) [] [] (All-nil (λ b. b ≢ separator)) (All-nil (IsPiece separator))
parts_clean separator (c ∷ cs) = by (c == separator) refl (parts_clean separator cs)
  where
    by : (t : Bool) → (c == separator) ≡ t → All (IsPiece separator) (parts separator cs) → All (IsPiece separator) (cond t ([] ∷ parts separator cs) (onto_first c (parts separator cs)))
    by true same none = All-cons (IsPiece separator) [] (parts separator cs) (All-nil (λ b. b ≢ separator)) none
    by false other none = clean_more separator c (parts separator cs) (grind (arith, nat_tests)) none

pub joined-parts : (separator : ℕ) (bytes : List ℕ) → joined separator (parts separator bytes) ≡ bytes
joined-parts separator bytes = join_with_byte-slice_split separator bytes

pub joined-parts_pieces : (separator : ℕ) (bytes : List ℕ)
    → (joined separator (parts separator bytes) ≡ bytes) × All (IsPiece separator) (parts separator bytes)
joined-parts_pieces separator bytes = (joined-parts separator bytes, parts_clean separator bytes)
