-- The steps of a reader: what an accepted result says of each step.
use Rattle.std.proofs.Common.{◌≡◌, Bool, true, false, Ok, Err, refl, ap, ◌∙◌}
use Rattle.std.specs.Prelude.{Result, if◌then◌else◌}
use Rattle.script_lines.specs.declared.kind.ScriptKind.{ScriptKind}
use Rattle.script_lines.specs.Refusal.{◌>>=◌, only_if}

-- where two steps in a row succeed, each of them does
pub bind-Ok : {A B E : Type 0} (r : Result A E) (f : A → Result B E) (y : B) → (r >>= f) ≡ Ok y → (x : A) × (r ≡ Ok x) × (f x ≡ Ok y)
bind-Ok (Ok x) f y e = (x, refl, e)
bind-Ok (Err k) f y e = absurd cc

-- a test that is passed is true, and the value is the one that was given
pub only_if-Ok : {A : Type 0} (test : Bool) (kind : ScriptKind) (value x : A) → only_if test kind value ≡ Ok x → (test ≡ true) × (value ≡ x)
only_if-Ok true kind value x e = (refl, cc)
only_if-Ok false kind value x e = absurd cc

-- the second branch, where the test is false
pub passed_over : {R : Type 0} (test : Bool) (here others x : R) → test ≡ false → others ≡ x → (if test then here else others) ≡ x
passed_over test here others x fails is = ap (λ t. if t then here else others) fails ∙ is

-- one of two branches was taken
pub either_way : {R G : Type 0} (test : Bool) (here others x : R) → (here ≡ x → G) → (others ≡ x → G) → (if test then here else others) ≡ x → G
either_way true here others x found next e = found e
either_way false here others x found next e = next e

-- one of two branches was taken, the first with its test true
pub tested_way : {R G : Type 0} (test : Bool) (here others x : R) → (test ≡ true → here ≡ x → G) → (others ≡ x → G) → (if test then here else others) ≡ x → G
tested_way true here others x found next e = found refl e
tested_way false here others x found next e = next e
