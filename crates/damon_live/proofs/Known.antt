-- Bytes that a source gave.
use Rattle.std.proofs.Common.{◌≡◌, ℕ, ◌<◌, List, [], ◌++◌, length, Some, None, Option, IsSome, sym, ap, ◌∙◌, subst, append-nil, length-append, arith}
use Rattle.std.specs.Prelude.{IfSome}
use Rattle.std.specs.Io.KnownBytes.{Consumes, IsAtEnd}
use Rattle.std.proofs.KnownBytes.{Consumes-nil}
use Rattle.text_io.specs.Given.{GaveOver, GaveUpTo}

-- known bytes that went once are as many as those that went
Consumes-length : (a b : Option (List ℕ)) (xs ys : List ℕ) → IsSome a → Consumes a b xs → Consumes a b ys → length xs ≡ length ys
Consumes-length None b xs ys known first second = absurd (cc known)
Consumes-length (Some us) None xs ys known first second = absurd first
Consumes-length (Some us) (Some vs) xs ys known first second = omega (arith, ap length first, ap length second, length-append xs vs, length-append ys vs)

-- known bytes that were few were not many
pub few_not_over : (limit : ℕ) (a b : Option (List ℕ)) → IsSome a → GaveUpTo limit a b → GaveOver limit a b → ⊥
few_not_over limit a b known (few, within, first) (many, over, second) = omega (arith, within, over, Consumes-length a b few many known first second)

-- a source that was left alone gave nothing
pub none_given : (limit : ℕ) (a : Option (List ℕ)) → IsSome a → GaveOver limit a a → ⊥
none_given limit a known gave = few_not_over limit a a known ([], omega arith, Consumes-nil a) gave

-- what holds of no bytes in particular
pub untold : (P : List ℕ → Type 0) (told : Option (List ℕ)) → ((bytes : List ℕ) → P bytes) → IfSome told P
untold P None all = tt
untold P (Some bytes) all = all bytes

-- bytes that are read to the end are those that were left
pub read_whole : (P : List ℕ → Type 0) (a b : Option (List ℕ)) (bytes : List ℕ) → Consumes a b bytes → IsAtEnd b → P bytes → IfSome a P
read_whole P None b bytes all end holds = tt
read_whole P (Some us) None bytes all end holds = absurd all
read_whole P (Some us) (Some vs) bytes all end holds = subst P (sym (all ∙ ap (λ zs. bytes ++ zs) end ∙ append-nil bytes)) holds

-- known bytes of which more were given are more
pub had_over : (limit : ℕ) (a b : Option (List ℕ)) (P : List ℕ → Type 0) → GaveOver limit a b → ((bytes : List ℕ) → limit < length bytes → P bytes) → IfSome a P
had_over limit None b P gave long = tt
had_over limit (Some bytes) None P (given, over, all) long = absurd all
had_over limit (Some bytes) (Some rest) P (given, over, all) long = long bytes (omega (arith, over, ap length all, length-append given rest))
