-- What a line that is accepted begins with.
use Rattle.std.proofs.Common.{◌≡◌, ℕ, Bool, true, false, not, List, drop, Ok, Err, refl}
use Rattle.std.specs.Prelude.{Result, if◌then◌else◌}
use Rattle.line_text.specs.Parts.{is_plain, parts}
use Rattle.script_lines.specs.declared.kind.ScriptKind.{ScriptKind}
use Rattle.script_lines.specs.declared.kind.ScriptKind.TheVariants.{Form, Word}
use Rattle.script_lines.specs.Head.{limited}
use Rattle.script_lines.specs.Refusal.{◌>>=◌, only_if}
use Rattle.damon_control.specs.declared.fault.ScriptFault.{ScriptFault}
use Rattle.damon_control.specs.Script.{at}
use Rattle.script_lines.specs.Words.{alone, arguments, begins_with, no_word, number_32, one_word}

-- where two steps in a row succeed, each of them does
pub bind-Ok : {A B E : Type 0} (r : Result A E) (f : A → Result B E) (y : B) → (r >>= f) ≡ Ok y → (x : A) × (r ≡ Ok x) × (f x ≡ Ok y)
bind-Ok (Ok x) f y e = (x, refl, e)
bind-Ok (Err k) f y e = absurd cc

-- so does a step that is read as a line of a text
pub at-Ok : {A B : Type 0} (n : ℕ) (r : Result A ScriptKind) (f : A → Result B ScriptFault) (y : B) → (at n r >>= f) ≡ Ok y
    → (x : A) × (r ≡ Ok x) × (f x ≡ Ok y)
at-Ok n (Ok x) f y e = (x, refl, e)
at-Ok n (Err kind) f y e = absurd cc

-- a test that is passed gives its value
pub only_if-Ok : {A : Type 0} (test : Bool) (kind : ScriptKind) (value x : A) → only_if test kind value ≡ Ok x → (test ≡ true) × (value ≡ x)
only_if-Ok true kind value x e = (refl, cc)
only_if-Ok false kind value x e = absurd cc

-- one of two branches was taken, and its test says which
pub either_way : {R G : Type 0} (test : Bool) (here others x : R) → (test ≡ true → here ≡ x → G) → (test ≡ false → others ≡ x → G)
    → (if test then here else others) ≡ x → G
either_way true here others x found next e = found refl e
either_way false here others x found next e = next refl e

arguments_begin : (word line : List ℕ) (words : List (List ℕ)) → arguments word line ≡ Ok words → begins_with word line ≡ true
arguments_begin word line words e = by (begins_with word line) refl e
  where
    by : (begins : Bool) → begins_with word line ≡ begins
        → (if not begins then Err Word else if not (is_plain line) then Err Form else Ok (drop 1 (parts 32 line))) ≡ Ok words → begins_with word line ≡ true
    by true begins accepted = begins
    by false begins accepted = absurd cc

-- a line of a word and others, which something is read from
pub words_begin : {A : Type 0} (word line : List ℕ) (read : List (List ℕ) → Result A ScriptKind) (x : A) → (arguments word line >>= read) ≡ Ok x
    → begins_with word line ≡ true
words_begin word line read x e =
    let words = bind-Ok (arguments word line) read x e in
    arguments_begin word line words.0 words.1

-- a line of a word and one more
pub one_begins : {A : Type 0} (word line : List ℕ) (read : List ℕ → Result A ScriptKind) (x : A) → (arguments word line >>= one_word >>= read) ≡ Ok x
    → begins_with word line ≡ true
one_begins word line read x e =
    let one = bind-Ok (arguments word line >>= one_word) read x e in
    words_begin word line one_word one.0 one.1

-- a line of a word and a number within limits
pub limited_begins : (word line : List ℕ) (least most n : ℕ) → (arguments word line >>= one_word >>= number_32 >>= limited least most) ≡ Ok n
    → begins_with word line ≡ true
limited_begins word line least most n e =
    let number = bind-Ok (arguments word line >>= one_word >>= number_32) (limited least most) n e in
    one_begins word line number_32 number.0 number.1

pub alone_begins : (word line : List ℕ) (t : Unit {0}) → alone word line ≡ Ok t → begins_with word line ≡ true
alone_begins word line t e = words_begin word line no_word t e
