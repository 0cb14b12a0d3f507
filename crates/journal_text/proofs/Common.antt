-- Steps that succeed, tests that pass, and lines without an LF.
use Rattle.std.proofs.Common.{◌≡◌, ℕ, ◌&&◌, ◌||◌, Bool, true, false, List, [], ◌∷◌, ◌++◌, Some, None, Ok, Err, refl, sym, ap, ◌∙◌, subst}
use Rattle.std.proofs.lemmas.List.Elements.{All-append, All-cons, All-head, All-nil, All-tail}
use Rattle.std.specs.Prelude.{All, Option, Result, option_and_then, option_map, if◌then◌else◌}
use Rattle.std.specs.Cmp.Lexicographic.{bytes_decides, same_text}
use Rattle.std.specs.List.{AllByRecursion}
use Rattle.std.specs.Option.{ok_or, option_or}
use Rattle.line_text.specs.Parts.{IsPiece}
use Rattle.script_lines.specs.Refusal.{◌>>=◌}
use Rattle.script_lines.specs.Words.{same_word}

-- ---- tests

-- two tests that both pass
pub both_are : (a b : Bool) → (a && b) ≡ true → (a ≡ true) × (b ≡ true)
both_are true b e = (refl, e)
both_are false b e = absurd cc

-- where the second test passes, one of the two does
pub or_second : (a b : Bool) → b ≡ true → (a || b) ≡ true
or_second true b e = refl
or_second false b e = e

-- a line is the same as itself
pub same_line : (line : List ℕ) → same_word line line ≡ true
same_line line = (bytes_decides line line).1 refl

-- and only as itself
pub is_line : (a b : List ℕ) → same_word a b ≡ true → a ≡ b
is_line a b e = same_text a b (sym e)

-- ---- steps that succeed

-- one of two tries succeeded
pub or_cases : {A G : Type 0} (o p : Option A) (x : A) → (o ≡ Some x → G) → (p ≡ Some x → G) → option_or o p ≡ Some x → G
or_cases (Some y) p x first second e = first e
or_cases None p x first second e = second e

-- the first of two tries succeeds
pub or_first : {A : Type 0} (o p : Option A) (x : A) → o ≡ Some x → option_or o p ≡ Some x
or_first o p x is = ap (λ q. option_or q p) is

-- a value that was mapped is that of some value
pub map_some : {A B : Type 0} (f : A → B) (o : Option A) (y : B) → option_map f o ≡ Some y → (x : A) × (o ≡ Some x) × (f x ≡ y)
map_some f (Some x) y e = (x, refl, cc)
map_some f None y e = absurd cc

-- where two tries in a row succeed, each of them does
pub then_some : {A B : Type 0} (o : Option A) (f : A → Option B) (y : B) → option_and_then f o ≡ Some y → (x : A) × (o ≡ Some x) × (f x ≡ Some y)
then_some (Some x) f y e = (x, refl, e)
then_some None f y e = absurd cc

-- what a passed test lets through
pub if_some : {A : Type 0} (test : Bool) (x y : A) → (if test then Some x else None) ≡ Some y → (test ≡ true) × (x ≡ y)
if_some true x y e = (refl, cc)
if_some false x y e = absurd cc

-- what holds behind a passed test holds of what it let through
pub past : {A : Type 0} (P : A → Type 0) (test : Bool) (x y : A) → (test ≡ true → P x) → (if test then Some x else None) ≡ Some y → P y
past P true x y holds e = let is : x ≡ y = cc in subst P is (holds refl)
past P false x y holds e = absurd cc

-- or of what another try gave
pub past_or : {A : Type 0} (P : A → Type 0) (test : Bool) (x y : A) (o : Option A) → (test ≡ true → P x) → (o ≡ Some y → P y) → (if test then Some x else o) ≡ Some y → P y
past_or P true x y o first second e = let is : x ≡ y = cc in subst P is (first refl)
past_or P false x y o first second e = second e

-- the same of a result
pub if_ok : {A E : Type 0} (test : Bool) (why : E) (x y : A) → (if test then Ok x else Err why) ≡ Ok y → (test ≡ true) × (x ≡ y)
if_ok true why x y e = (refl, cc)
if_ok false why x y e = absurd cc

-- one of two branches was taken
pub either_way : {R G : Type 0} (test : Bool) (here others x : R) → (here ≡ x → G) → (others ≡ x → G) → (if test then here else others) ≡ x → G
either_way true here others x found next e = found e
either_way false here others x found next e = next e

-- an option that is taken is some value
pub ok_some : {A E : Type 0} (o : Option A) (why : E) (x : A) → ok_or o why ≡ Ok x → o ≡ Some x
ok_some (Some y) why x e = let is : y ≡ x = cc in ap (λ z. Some z) is
ok_some None why x e = absurd cc

-- where two steps in a row succeed, each of them does
pub bind-Ok : {A B E : Type 0} (r : Result A E) (f : A → Result B E) (y : B) → (r >>= f) ≡ Ok y → (x : A) × (r ≡ Ok x) × (f x ≡ Ok y)
bind-Ok (Ok x) f y e = (x, refl, e)
bind-Ok (Err k) f y e = absurd cc

-- where the first step succeeds, the result is that of the second
pub then-Ok : {A B E : Type 0} (r : Result A E) (f : A → Result B E) (x : A) (y : Result B E) → r ≡ Ok x → f x ≡ y → (r >>= f) ≡ y
then-Ok r f x y first rest = ap (λ s. s >>= f) first ∙ rest

-- ---- lists

-- what holds of each item of two lists holds of each item of both
pub both_all : {A : Type 0} (P : A → Type 0) (xs ys : List A) → AllByRecursion P xs → AllByRecursion P ys → AllByRecursion P (xs ++ ys)
both_all P [] ys first second = second
both_all P (x ∷ xs) ys first second = (first.0, both_all P xs ys first.1 second)

-- each line of a list has no LF
abbrev pub Pieces : List (List ℕ) → Type 0
Pieces lines = All (IsPiece 10) lines

pub no_pieces : Pieces []
no_pieces = All-nil (IsPiece 10)

pub piece_first : (line : List ℕ) (lines : List (List ℕ)) → IsPiece 10 line → Pieces lines → Pieces (line ∷ lines)
piece_first line lines first others = All-cons (IsPiece 10) line lines first others

pub both_pieces : (a b : List (List ℕ)) → Pieces a → Pieces b → Pieces (a ++ b)
both_pieces a b first second = All-append (IsPiece 10) a b first second

-- the front of such lines
pub pieces_front : (a b : List (List ℕ)) → Pieces (a ++ b) → Pieces a
pieces_front [] b each = no_pieces
pieces_front (line ∷ a) b each = piece_first line a (All-head (IsPiece 10) line (a ++ b) each) (pieces_front a b (All-tail (IsPiece 10) line (a ++ b) each))
