-- What a sink took in several calls.
use Rattle.std.proofs.Common.{◌≡◌, ℕ, ◌+◌, List, [], ◌++◌, length, take, drop, Option, sym, ap, ◌∙◌, subst, append_assoc, take-append-drop, length-append, arith}
use Rattle.std.specs.Io.KnownBytes.{Appends, Keeps}
use Rattle.std.proofs.KnownBytes.{Appends-nil, Appends-trans, Appends-kept}
use Rattle.std.proofs.Math.Seq.{take-append-add}
use Rattle.std.proofs.lemmas.List.{take-append-le}
use Rattle.text_io.specs.Taken.{WritesPart}

-- ---- parts of a text

pub parts_joined : (n : ℕ) (text front back : List ℕ) → front ≡ take n text → back ≡ drop n text → text ≡ front ++ back
parts_joined n text front back first second = sym (ap (λ zs. zs ++ back) first ∙ ap (λ zs. take n text ++ zs) second ∙ take-append-drop n text)

-- a sink that took nothing
pub WritesPart-kept : (a b : Option (List ℕ)) (text : List ℕ) → Keeps a b → WritesPart a b text
WritesPart-kept a b text kept = (0, omega arith, Appends-kept a a b [] (Appends-nil a) kept)

-- a part of a prefix
pub WritesPart-longer : (a b : Option (List ℕ)) (text more : List ℕ) → WritesPart a b text → WritesPart a b (text ++ more)
WritesPart-longer a b text more (n, within, taken) = (n, omega (arith, length-append text more), subst (Appends a b) (sym (take-append-le n text more within)) taken)

-- a part after a prefix
pub WritesPart-after : (a b c : Option (List ℕ)) (front rest : List ℕ) → Appends a b front → WritesPart b c rest → WritesPart a c (front ++ rest)
WritesPart-after a b c front rest first (n, within, more) = (length front + n, omega (arith, length-append front rest), subst (Appends a c) (sym (take-append-add front rest n)) (Appends-trans a b c front (take n rest) first more))

-- ---- a text of which the sink took a prefix

-- the sink took a prefix of a text, and the rest of it is left
abbrev pub Written : Option (List ℕ) → List ℕ → Option (List ℕ) → List ℕ → Type 0
Written old old_text new new_text = (taken : List ℕ) × Appends old new taken × (old_text ≡ taken ++ new_text)

-- the sink took more of what was left
pub Written-then : (a b c : Option (List ℕ)) (text rest last : List ℕ) → Written a text b rest → Written b rest c last → Written a text c last
Written-then a b c text rest last (front, first, is) (front', second, is') =
    (front ++ front', Appends-trans a b c front front' first second, is ∙ ap (λ zs. front ++ zs) is' ∙ sym (append_assoc front front' last))

-- the sink took a part of what was left
pub Written-part : (a b c : Option (List ℕ)) (text rest : List ℕ) → Written a text b rest → WritesPart b c rest → WritesPart a c text
Written-part a b c text rest (front, first, is) second = subst (WritesPart a c) (sym is) (WritesPart-after a b c front rest first second)
