-- The words of a line, and the numbers that they are read as.
use Rattle.std.proofs.Common.{◌≡◌, ◌-◌, ◌^◌, ◌<◌, ◌≤◌, ◌∷◌, [], ℕ, Bool, true, false, not, List, drop, Ok, Err, refl, sym, ap, ◌∙◌, decimal, arith}
use Rattle.std.specs.Prelude.{Result, if◌then◌else◌}
use Rattle.std.specs.Option.{ok_or}
use Rattle.std.specs.Cmp.Lexicographic.{same_text}
use Rattle.line_text.specs.Address.{address, spelled_address}
use Rattle.line_text.specs.Number.{number}
use Rattle.line_text.specs.Parts.{is_plain, joined, one_of, two_of, three_of, parts}
use Rattle.line_text.proofs.Lemmas.{address-Some, joined-parts_pieces, number-Some}
use Rattle.script_lines.specs.declared.kind.ScriptKind.{ScriptKind}
use Rattle.script_lines.specs.declared.kind.ScriptKind.TheVariants.{Word, Form, Number}
use Rattle.script_lines.specs.Laws.{ReadsOnly}
use Rattle.script_lines.specs.Refusal.{◌>>=◌}
use Rattle.script_lines.specs.Words.{alone, arguments, begins_with, byte_address, no_word, number_8, number_16, number_32, number_64, one_word, same_word}
use Rattle.script_lines.proofs.SpellSteps.{bind-Ok, ok_or-Ok, one_of-Some, two_of-Some, three_of-Some}

-- a line that begins with a word is that word and its other parts
begins_with-joined : (word line : List ℕ) → begins_with word line ≡ true → line ≡ joined 32 (word ∷ drop 1 (parts 32 line))
begins_with-joined word line e = by (parts 32 line) refl (joined-parts_pieces 32 line).0
  where
    by : (words : List (List ℕ)) → parts 32 line ≡ words → joined 32 words ≡ line → line ≡ joined 32 (word ∷ drop 1 words)
    by [] is whole = let same = rw is at e in sym whole ∙ same_text [] word (sym same)
    by (first ∷ rest) is whole =
        let begins = rw is at e in
        let same : first ≡ word = same_text first word (sym begins) in
        sym whole ∙ ap (λ w. joined 32 (w ∷ rest)) same

-- a line with these arguments is the word and the arguments
pub arguments-Ok : (word line : List ℕ) (words : List (List ℕ)) → arguments word line ≡ Ok words → line ≡ joined 32 (word ∷ words)
arguments-Ok word line words e = by (begins_with word line) (is_plain line) refl e
  where
    by : (begins plain : Bool) → begins_with word line ≡ begins
        → (if not begins then Err Word else if not plain then Err Form else Ok (drop 1 (parts 32 line))) ≡ Ok words → line ≡ joined 32 (word ∷ words)
    by false plain is accepted = absurd cc
    by true false is accepted = absurd cc
    by true true is accepted =
        let same : drop 1 (parts 32 line) ≡ words = cc in
        begins_with-joined word line is ∙ ap (λ ws. joined 32 (word ∷ ws)) same

-- a line of one word is that word
pub alone-Ok : (word line : List ℕ) → alone word line ≡ Ok tt → line ≡ word
alone-Ok word line e =
    let words = bind-Ok (arguments word line) no_word tt e in
    by words.0 words.2 (arguments-Ok word line words.0 words.1)
  where
    by : (words : List (List ℕ)) → no_word words ≡ Ok tt → line ≡ joined 32 (word ∷ words) → line ≡ word
    by [] none is = is
    by (next ∷ more) none is = absurd cc

number-Ok : (most : ℕ) → most < 2 ^ 64 → (word : List ℕ) (n : ℕ) → ok_or (number most word) Number ≡ Ok n → word ≡ decimal n
number-Ok most small word n e = (number-Some most n word small (ok_or-Ok (number most word) Number n e)).0

number-small : (most : ℕ) → most < 2 ^ 64 → (word : List ℕ) (n : ℕ) → ok_or (number most word) Number ≡ Ok n → n ≤ most
number-small most small word n e = (number-Some most n word small (ok_or-Ok (number most word) Number n e)).1

pub number_8-small : (word : List ℕ) (n : ℕ) → number_8 word ≡ Ok n → n < 2 ^ 8
number_8-small word n e = omega (arith, number-small (2 ^ 8 - 1) (omega arith) word n e)

pub number_16-small : (word : List ℕ) (n : ℕ) → number_16 word ≡ Ok n → n < 2 ^ 16
number_16-small word n e = omega (arith, number-small (2 ^ 16 - 1) (omega arith) word n e)

pub number_32-small : (word : List ℕ) (n : ℕ) → number_32 word ≡ Ok n → n < 2 ^ 32
number_32-small word n e = omega (arith, number-small (2 ^ 32 - 1) (omega arith) word n e)

pub number_64-small : (word : List ℕ) (n : ℕ) → number_64 word ≡ Ok n → n < 2 ^ 64
number_64-small word n e = omega (arith, number-small (2 ^ 64 - 1) (omega arith) word n e)

pub byte_address-small : (word : List ℕ) (n : ℕ) → byte_address word ≡ Ok n → n < 2 ^ 64
byte_address-small word n e = (address-Some n word (ok_or-Ok (address word) Number n e)).1

pub number_8-Ok : ReadsOnly number_8 decimal
number_8-Ok word n e = number-Ok (2 ^ 8 - 1) (omega arith) word n e

pub number_16-Ok : ReadsOnly number_16 decimal
number_16-Ok word n e = number-Ok (2 ^ 16 - 1) (omega arith) word n e

pub number_32-Ok : ReadsOnly number_32 decimal
number_32-Ok word n e = number-Ok (2 ^ 32 - 1) (omega arith) word n e

pub number_64-Ok : ReadsOnly number_64 decimal
number_64-Ok word n e = number-Ok (2 ^ 64 - 1) (omega arith) word n e

pub byte_address-Ok : ReadsOnly byte_address spelled_address
byte_address-Ok word n e = (address-Some n word (ok_or-Ok (address word) Number n e)).0

-- a line of a word and one more is spelled by that word and the spelling of what is read
pub one_word-Ok : {A : Type 0} (word : List ℕ) (read : List ℕ → Result A ScriptKind) (spelled : A → List ℕ) → ReadsOnly read spelled
    → ReadsOnly (λ line. arguments word line >>= one_word >>= read) (λ x. joined 32 (word ∷ spelled x ∷ []))
one_word-Ok word read spelled only line x e =
    let one = bind-Ok (arguments word line >>= one_word) read x e in
    let words = bind-Ok (arguments word line) one_word one.0 one.1 in
    let is : words.0 ≡ one.0 ∷ [] = one_of-Some words.0 one.0 (ok_or-Ok (one_of words.0) Form one.0 words.2) in
    arguments-Ok word line words.0 words.1
    ∙ ap (λ ws. joined 32 (word ∷ ws)) (is ∙ ap (λ w. w ∷ []) (only one.0 x one.2))

-- a property of all that a reader of one word returns holds of what is read from a line
pub one_word-has : {A : Type 0} (P : A → Type 0) (word : List ℕ) (read : List ℕ → Result A ScriptKind) → ((w : List ℕ) (x : A) → read w ≡ Ok x → P x)
    → (line : List ℕ) (x : A) → (arguments word line >>= one_word >>= read) ≡ Ok x → P x
one_word-has P word read has line x e = let one = bind-Ok (arguments word line >>= one_word) read x e in has one.0 x one.2

-- a value with two parts is these parts, joined
pub two_parts-Ok : (separator : ℕ) (value : List ℕ) (x : List ℕ × List ℕ) → ok_or (two_of (parts separator value)) Form ≡ Ok x
    → value ≡ joined separator (x.0 ∷ x.1 ∷ [])
two_parts-Ok separator value x e =
    sym (joined-parts_pieces separator value).0
    ∙ ap (joined separator) (two_of-Some (parts separator value) x (ok_or-Ok (two_of (parts separator value)) Form x e))

-- a value with one part is that part
pub one_part-Ok : (separator : ℕ) (value x : List ℕ) → ok_or (one_of (parts separator value)) Form ≡ Ok x → value ≡ x
one_part-Ok separator value x e =
    sym (joined-parts_pieces separator value).0
    ∙ ap (joined separator) (one_of-Some (parts separator value) x (ok_or-Ok (one_of (parts separator value)) Form x e))

-- a value with three parts is these parts, joined
pub three_parts-Ok : (separator : ℕ) (value : List ℕ) (x : List ℕ × List ℕ × List ℕ) → ok_or (three_of (parts separator value)) Form ≡ Ok x
    → value ≡ joined separator (x.0 ∷ x.1 ∷ x.2 ∷ [])
three_parts-Ok separator value x e =
    sym (joined-parts_pieces separator value).0
    ∙ ap (joined separator) (three_of-Some (parts separator value) x (ok_or-Ok (three_of (parts separator value)) Form x e))

-- where a word is compared with a text, either it is that text or the other branch is taken
pub same_or_other : {R G : Type 0} (name text : List ℕ) (here others x : R) → (name ≡ text → here ≡ x → G) → (others ≡ x → G)
    → (if same_word name text then here else others) ≡ x → G
same_or_other {R} {G} name text here others x found next e = by (same_word name text) refl e
  where
    by : (t : Bool) → same_word name text ≡ t → (if t then here else others) ≡ x → G
    by true is e = found (same_text name text (sym is)) e
    by false is e = next e
