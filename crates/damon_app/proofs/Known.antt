-- Bytes that a source gave and a sink took in several calls.
use Rattle.std.proofs.Common.{◌≡◌, ℕ, ◌+◌, List, [], ◌++◌, length, take, Some, None, Option, IsSome, sym, ap, subst, length-append, arith}
use Rattle.std.specs.Io.KnownBytes.{Consumes, Appends}
use Rattle.std.proofs.KnownBytes.{Consumes-nil, Appends-trans}
use Rattle.std.proofs.Math.Seq.{take-length, take-append-add}
use Rattle.std.proofs.lemmas.List.{take-append-le}
use Rattle.text_io.specs.Given.{GaveOver, GaveUpTo}
use Rattle.text_io.specs.Taken.{WritesPart}

-- known bytes that went once are as many as those that went
pub Consumes-length : (a b : Option (List ℕ)) (xs ys : List ℕ) → IsSome a → Consumes a b xs → Consumes a b ys → length xs ≡ length ys
Consumes-length None b xs ys known first second = absurd (cc known)
Consumes-length (Some us) None xs ys known first second = absurd first
Consumes-length (Some us) (Some vs) xs ys known first second = omega (arith, ap length first, ap length second, length-append xs vs, length-append ys vs)

-- a source that was not called gave nothing
pub GaveUpTo-none : (limit : ℕ) (a : Option (List ℕ)) → GaveUpTo limit a a
GaveUpTo-none limit a = ([], omega arith, Consumes-nil a)

-- known bytes that were few were not many
pub GaveUpTo-not_over : (limit : ℕ) (a b : Option (List ℕ)) → IsSome a → GaveUpTo limit a b → GaveOver limit a b → ⊥
GaveUpTo-not_over limit a b known (few, within, first) (many, over, second) = omega (arith, within, over, Consumes-length a b few many known first second)

-- ---- parts of a text

pub WritesPart-whole : (a b : Option (List ℕ)) (text : List ℕ) → Appends a b text → WritesPart a b text
WritesPart-whole a b text all = (length text, omega arith, subst (Appends a b) (sym (take-length text)) all)

-- a part of a prefix
pub WritesPart-longer : (a b : Option (List ℕ)) (text more : List ℕ) → WritesPart a b text → WritesPart a b (text ++ more)
WritesPart-longer a b text more (n, within, taken) = (n, omega (arith, length-append text more), subst (Appends a b) (sym (take-append-le n text more within)) taken)

-- a part after a prefix
pub WritesPart-after : (a b c : Option (List ℕ)) (front rest : List ℕ) → Appends a b front → WritesPart b c rest → WritesPart a c (front ++ rest)
WritesPart-after a b c front rest first (n, within, more) = (length front + n, omega (arith, length-append front rest), subst (Appends a c) (sym (take-append-add front rest n)) (Appends-trans a b c front (take n rest) first more))
