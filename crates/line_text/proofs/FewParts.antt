-- Exactly two parts, three or four.
use Rattle.std.proofs.Common.{◌≡◌, ℕ, ◌<◌, List, [], ◌∷◌, ◌==◌, length, Option, Some, None, refl, sym, ap, ◌∙◌, arith}
use Rattle.std.specs.Option.{option_map}
use Rattle.std.proofs.lemmas.List.Splits.{length-slice_split}
use Rattle.line_text.specs.Line.{split_at_byte}
use Rattle.line_text.specs.Parts.{four_of, one_of, parts, three_of, two_of}
use Rattle.line_text.proofs.Separators.{parts-split_at_byte-Some}

one_of-cons : (first : List ℕ) (others : List (List ℕ)) → 0 < length others → one_of (first ∷ others) ≡ None
one_of-cons first [] some = absurd (omega arith)
one_of-cons first (a ∷ others) some = refl

-- after a separator there is one more part
pub more_than_one : (separator : ℕ) (bytes first rest : List ℕ) → split_at_byte separator bytes ≡ Some (first, rest) → one_of (parts separator bytes) ≡ None
more_than_one separator bytes first rest taken =
    ap one_of (parts-split_at_byte-Some separator bytes first rest taken)
    ∙ one_of-cons first (parts separator rest) (omega (arith, length-slice_split (λ c. c == separator) rest))

-- a first part and one more are two
two_of-cons : (first : List ℕ) (others : List (List ℕ)) → option_map (λ second. (first, second)) (one_of others) ≡ two_of (first ∷ others)
two_of-cons first [] = refl
two_of-cons first (a ∷ []) = refl
two_of-cons first (a ∷ b ∷ others) = refl

-- a first part and two more are three
three_of-cons : (first : List ℕ) (others : List (List ℕ)) → option_map (λ (x : List ℕ × List ℕ). (first, x.0, x.1)) (two_of others) ≡ three_of (first ∷ others)
three_of-cons first [] = refl
three_of-cons first (a ∷ []) = refl
three_of-cons first (a ∷ b ∷ []) = refl
three_of-cons first (a ∷ b ∷ c ∷ others) = refl

-- a first part and three more are four
four_of-cons : (first : List ℕ) (others : List (List ℕ)) → option_map (λ (x : List ℕ × List ℕ × List ℕ). (first, x.0, x.1, x.2)) (three_of others) ≡ four_of (first ∷ others)
four_of-cons first [] = refl
four_of-cons first (a ∷ []) = refl
four_of-cons first (a ∷ b ∷ []) = refl
four_of-cons first (a ∷ b ∷ c ∷ []) = refl
four_of-cons first (a ∷ b ∷ c ∷ d ∷ others) = refl

-- the parts after the first, if the rest has exactly one, two or three
pub two_from : (separator : ℕ) (bytes first rest : List ℕ) (last : Option (List ℕ)) → split_at_byte separator bytes ≡ Some (first, rest)
    → last ≡ one_of (parts separator rest) → option_map (λ second. (first, second)) last ≡ two_of (parts separator bytes)
two_from separator bytes first rest last taken is =
    ap (option_map (λ second. (first, second))) is ∙ two_of-cons first (parts separator rest) ∙ ap two_of (sym (parts-split_at_byte-Some separator bytes first rest taken))

pub three_from : (separator : ℕ) (bytes first rest : List ℕ) (last : Option (List ℕ × List ℕ)) → split_at_byte separator bytes ≡ Some (first, rest)
    → last ≡ two_of (parts separator rest) → option_map (λ (x : List ℕ × List ℕ). (first, x.0, x.1)) last ≡ three_of (parts separator bytes)
three_from separator bytes first rest last taken is =
    ap (option_map (λ (x : List ℕ × List ℕ). (first, x.0, x.1))) is ∙ three_of-cons first (parts separator rest)
    ∙ ap three_of (sym (parts-split_at_byte-Some separator bytes first rest taken))

pub four_from : (separator : ℕ) (bytes first rest : List ℕ) (last : Option (List ℕ × List ℕ × List ℕ)) → split_at_byte separator bytes ≡ Some (first, rest)
    → last ≡ three_of (parts separator rest) → option_map (λ (x : List ℕ × List ℕ × List ℕ). (first, x.0, x.1, x.2)) last ≡ four_of (parts separator bytes)
four_from separator bytes first rest last taken is =
    ap (option_map (λ (x : List ℕ × List ℕ × List ℕ). (first, x.0, x.1, x.2))) is ∙ four_of-cons first (parts separator rest)
    ∙ ap four_of (sym (parts-split_at_byte-Some separator bytes first rest taken))

-- pieces that are one, two, three or four are these
pub one_of-Some : (pieces : List (List ℕ)) (a : List ℕ) → one_of pieces ≡ Some a → pieces ≡ a ∷ []
one_of-Some [] a e = absurd cc
one_of-Some (x ∷ []) a e = cc
one_of-Some (x ∷ y ∷ more) a e = absurd cc

pub two_of-Some : (pieces : List (List ℕ)) (a b : List ℕ) → two_of pieces ≡ Some (a, b) → pieces ≡ a ∷ b ∷ []
two_of-Some [] a b e = absurd cc
two_of-Some (x ∷ []) a b e = absurd cc
two_of-Some (x ∷ y ∷ []) a b e = let same : (x, y) ≡ (a, b) = cc in ap (λ (p : List ℕ × List ℕ). p.0 ∷ p.1 ∷ []) same
two_of-Some (x ∷ y ∷ z ∷ more) a b e = absurd cc

pub three_of-Some : (pieces : List (List ℕ)) (a b c : List ℕ) → three_of pieces ≡ Some (a, b, c) → pieces ≡ a ∷ b ∷ c ∷ []
three_of-Some [] a b c e = absurd cc
three_of-Some (x ∷ []) a b c e = absurd cc
three_of-Some (x ∷ y ∷ []) a b c e = absurd cc
three_of-Some (x ∷ y ∷ z ∷ []) a b c e = let same : (x, y, z) ≡ (a, b, c) = cc in ap (λ (p : List ℕ × List ℕ × List ℕ). p.0 ∷ p.1 ∷ p.2 ∷ []) same
three_of-Some (x ∷ y ∷ z ∷ w ∷ more) a b c e = absurd cc

pub four_of-Some : (pieces : List (List ℕ)) (a b c d : List ℕ) → four_of pieces ≡ Some (a, b, c, d) → pieces ≡ a ∷ b ∷ c ∷ d ∷ []
four_of-Some [] a b c d e = absurd cc
four_of-Some (x ∷ []) a b c d e = absurd cc
four_of-Some (x ∷ y ∷ []) a b c d e = absurd cc
four_of-Some (x ∷ y ∷ z ∷ []) a b c d e = absurd cc
four_of-Some (x ∷ y ∷ z ∷ w ∷ []) a b c d e =
    let same : (x, y, z, w) ≡ (a, b, c, d) = cc in ap (λ (p : List ℕ × List ℕ × List ℕ × List ℕ). p.0 ∷ p.1 ∷ p.2 ∷ p.3 ∷ []) same
four_of-Some (x ∷ y ∷ z ∷ w ∷ v ∷ more) a b c d e = absurd cc
