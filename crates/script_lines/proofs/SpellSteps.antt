-- The steps of a reader: what an accepted result says of each step, and steps that are accepted.
use Rattle.std.proofs.Common.{◌≡◌, ◌∷◌, [], ℕ, Bool, true, false, List, Some, None, Ok, Err, refl, ap, ◌∙◌, ◌&&◌}
use Rattle.std.specs.Prelude.{Option, Result, if◌then◌else◌}
use Rattle.std.specs.Option.{ok_or}
use Rattle.line_text.specs.Parts.{one_of, two_of, three_of, four_of}
use Rattle.script_lines.specs.declared.kind.ScriptKind.{ScriptKind}
use Rattle.script_lines.specs.Refusal.{◌>>=◌, only_if}

-- where two steps in a row succeed, each of them does
pub bind-Ok : {A B E : Type 0} (r : Result A E) (f : A → Result B E) (y : B) → (r >>= f) ≡ Ok y → (x : A) × (r ≡ Ok x) × (f x ≡ Ok y)
bind-Ok (Ok x) f y e = (x, refl, e)
bind-Ok (Err k) f y e = absurd cc

-- where the first step succeeds, the result is that of the second
pub then-Ok : {A B E : Type 0} (r : Result A E) (f : A → Result B E) (x : A) (y : Result B E) → r ≡ Ok x → f x ≡ y → (r >>= f) ≡ y
then-Ok r f x y first rest = ap (λ s. s >>= f) first ∙ rest

-- an option that is taken is some value
pub ok_or-Ok : {A : Type 0} (o : Option A) (kind : ScriptKind) (x : A) → ok_or o kind ≡ Ok x → o ≡ Some x
ok_or-Ok (Some y) kind x e = cc
ok_or-Ok None kind x e = absurd cc

-- a test that is passed is true, and the value is the one that was given
pub only_if-Ok : {A : Type 0} (test : Bool) (kind : ScriptKind) (value x : A) → only_if test kind value ≡ Ok x → (test ≡ true) × (value ≡ x)
only_if-Ok true kind value x e = (refl, cc)
only_if-Ok false kind value x e = absurd cc

-- a branch that is no fault is the first one
pub if-Ok : {A : Type 0} (test : Bool) (kind : ScriptKind) (value x : A) → (if test then Ok value else Err kind) ≡ Ok x → value ≡ x
if-Ok true kind value x e = cc
if-Ok false kind value x e = absurd cc

-- the first branch, where the test is true
pub chosen : {R : Type 0} (test : Bool) (here others x : R) → test ≡ true → here ≡ x → (if test then here else others) ≡ x
chosen test here others x passes is = ap (λ t. if t then here else others) passes ∙ is

-- the second branch, where the test is false
pub passed_over : {R : Type 0} (test : Bool) (here others x : R) → test ≡ false → others ≡ x → (if test then here else others) ≡ x
passed_over test here others x fails is = ap (λ t. if t then here else others) fails ∙ is

-- one of two branches was taken, the first with its test true
pub tested_way : {R G : Type 0} (test : Bool) (here others x : R) → (test ≡ true → here ≡ x → G) → (others ≡ x → G) → (if test then here else others) ≡ x → G
tested_way true here others x found next e = found refl e
tested_way false here others x found next e = next e

-- one of two branches was taken
pub either_way : {R G : Type 0} (test : Bool) (here others x : R) → (here ≡ x → G) → (others ≡ x → G) → (if test then here else others) ≡ x → G
either_way test here others x found next = tested_way test here others x (λ _. found) next

-- the first of two tests that are both true
pub first_true : (first second : Bool) → (first && second) ≡ true → first ≡ true
first_true true second both = refl
first_true false second both = absurd cc

-- the second of two tests that are both true
pub second_true : (first second : Bool) → (first && second) ≡ true → second ≡ true
second_true true second both = both
second_true false second both = absurd cc

pub one_of-Some : (words : List (List ℕ)) (a : List ℕ) → one_of words ≡ Some a → words ≡ a ∷ []
one_of-Some [] a e = absurd cc
one_of-Some (b ∷ []) a e = cc
one_of-Some (b ∷ c ∷ more) a e = absurd cc

pub two_of-Some : (words : List (List ℕ)) (x : List ℕ × List ℕ) → two_of words ≡ Some x → words ≡ x.0 ∷ x.1 ∷ []
two_of-Some [] x e = absurd cc
two_of-Some (a ∷ []) x e = absurd cc
two_of-Some (a ∷ b ∷ []) x e = cc
two_of-Some (a ∷ b ∷ c ∷ more) x e = absurd cc

pub three_of-Some : (words : List (List ℕ)) (x : List ℕ × List ℕ × List ℕ) → three_of words ≡ Some x → words ≡ x.0 ∷ x.1 ∷ x.2 ∷ []
three_of-Some [] x e = absurd cc
three_of-Some (a ∷ []) x e = absurd cc
three_of-Some (a ∷ b ∷ []) x e = absurd cc
three_of-Some (a ∷ b ∷ c ∷ []) x e = cc
three_of-Some (a ∷ b ∷ c ∷ d ∷ more) x e = absurd cc

pub four_of-Some : (words : List (List ℕ)) (x : List ℕ × List ℕ × List ℕ × List ℕ) → four_of words ≡ Some x → words ≡ x.0 ∷ x.1 ∷ x.2 ∷ x.3 ∷ []
four_of-Some [] x e = absurd cc
four_of-Some (a ∷ []) x e = absurd cc
four_of-Some (a ∷ b ∷ []) x e = absurd cc
four_of-Some (a ∷ b ∷ c ∷ []) x e = absurd cc
four_of-Some (a ∷ b ∷ c ∷ d ∷ []) x e = cc
four_of-Some (a ∷ b ∷ c ∷ d ∷ f ∷ more) x e = absurd cc
