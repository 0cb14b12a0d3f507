-- The words of a line, and those that are left of it.
use Rattle.std.proofs.Common.{◌≡◌, ◌<◌, ℕ, suc, true, false, List, [], ◌∷◌, length, Some, None, Err, IfSome, refl, sym, ap, ◌∙◌, arith}
use Rattle.std.specs.Prelude.{Option}
use Rattle.std.specs.Borrow.{Bor}
use Rattle.std.specs.Cmp.Lexicographic.{same_text}
use Rattle.line_text.specs.Parts.{one_of, parts}
use Rattle.line_text.proofs.Lemmas.{address-Some, address-spelled_address, after_prefix-Some, digits-decimal, digits-hex, joined-parts_pieces, number-Some, number-decimal, parts-joined, parts_some}
use Rattle.script_lines.specs.declared.kind.ScriptKind.TheVariants.{Form}
use Rattle.script_lines.specs.Words.{begins_with, no_word, same_word}

-- how much is left of words: each word that is taken makes it less
abbrev pub size_left : Option (Bor (List ℕ)) → ℕ
size_left None = 0
size_left (Some text) = suc (length text.now)

-- what follows a word is less than what the word was taken from
pub size_left_less : (rest more : Option (Bor (List ℕ))) (text : Bor (List ℕ)) → rest ≡ Some text → IfSome more (λ m. length m.now < length text.now) → size_left more < size_left rest
size_left_less rest None text is shorter = rw is (omega arith)
size_left_less rest (Some m) text is shorter = rw is (omega (arith, shorter))

-- some bytes at least are a word
pub no_word_parts : (bytes : List ℕ) → no_word (parts 32 bytes) ≡ Err Form
no_word_parts bytes = by (parts 32 bytes) (parts_some 32 bytes)
  where
    by : (words : List (List ℕ)) → 0 < length words → no_word words ≡ Err Form
    by [] some = absurd (omega arith)
    by (word ∷ words) some = refl

-- a word and the parts after it are more than one
pub one_of_parts : (separator : ℕ) (word bytes : List ℕ) → one_of (word ∷ parts separator bytes) ≡ None
one_of_parts separator word bytes = by (parts separator bytes) (parts_some separator bytes)
  where
    by : (words : List (List ℕ)) → 0 < length words → one_of (word ∷ words) ≡ None
    by [] some = absurd (omega arith)
    by (next ∷ words) some = refl

-- a line has one first word
begins_same : (word other line : List ℕ) → begins_with word line ≡ true → begins_with other line ≡ same_word word other
begins_same word other line e = by (parts 32 line) refl
  where
    by : (words : List (List ℕ)) → parts 32 line ≡ words → begins_with other line ≡ same_word word other
    by [] is =
        let begins = rw is at e in
        let same : [] ≡ word = same_text [] word (sym begins) in
        rw is (ap (λ w. same_word w other) same)
    by (first ∷ rest) is =
        let begins = rw is at e in
        let same : first ≡ word = same_text first word (sym begins) in
        rw is (ap (λ w. same_word w other) same)

-- a line that begins with one word begins with no other
pub begins_other : (word other line : List ℕ) → begins_with word line ≡ true → same_word word other ≡ false → begins_with other line ≡ false
begins_other word other line e differ = begins_same word other line e ∙ differ
