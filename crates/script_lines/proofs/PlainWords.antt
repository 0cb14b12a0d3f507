-- Plain words: their bytes, and lines of such words.
use Rattle.std.proofs.Common.{◌≡◌, ◌≢◌, ◌^◌, ◌<◌, ◌-◌, ◌∷◌, [], ℕ, Bool, true, false, not, ◌&&◌, ◌||◌, ◌==◌, nat_le, List, ◌++◌, Some, Ok, refl, sym, ap, ◌∙◌, decimal, arith, IsTrue, IsSome}
use Rattle.std.specs.Char.{is_ascii_digit}
use Rattle.std.specs.Cmp.Derive.{both_true}
use Rattle.std.specs.Fmt.{digits}
use Rattle.std.specs.List.{list_all}
use Rattle.std.proofs.lemmas.Bool.Decides.{nat_tests}
use Rattle.std.proofs.lemmas.List.Elements.{All-weaker}
use Rattle.std.proofs.lemmas.List.Sums.{AllPass-from_list_all, list_all-from_AllPass}
use Rattle.line_text.specs.Address.{hex_digit, spelled_address}
use Rattle.line_text.specs.Number.{number}
use Rattle.line_text.specs.Parts.{IsPiece, is_plain, is_printable, is_word, joined, parts}
use Rattle.line_text.proofs.Lemmas.{digits-decimal, digits-hex, number-decimal, parts-joined}
use Rattle.script_lines.specs.Words.{arguments, begins_with, same_word}
use Rattle.script_lines.proofs.SpellSteps.{first_true, second_true}

-- a byte of a number or an address: a digit or a lower-case letter, so no separator
abbrev pub is_field_byte : ℕ → Bool
is_field_byte c = is_ascii_digit c || (nat_le 97 c && nat_le c 122)

-- a byte of a word: printable and no space
abbrev pub is_word_byte : ℕ → Bool
is_word_byte c = is_printable c && not (c == 32)

-- a word that is not empty, with bytes of a word only
abbrev pub is_plain_word : List ℕ → Bool
is_plain_word word = is_word word && list_all is_word_byte word

-- a number or an address
pub record IsField (word : List ℕ) : Type 0 where
  pub some : is_word word ≡ true
  pub bytes : list_all is_field_byte word ≡ true

pub list_all-weaker : {X : Type 0} (p q : X → Bool) → ((x : X) → p x ≡ true → q x ≡ true) → (xs : List X) → list_all p xs ≡ true → list_all q xs ≡ true
list_all-weaker p q weaker [] all = refl
list_all-weaker p q weaker (x ∷ xs) all =
    both_true (weaker x (first_true (p x) (list_all p xs) all)) (list_all-weaker p q weaker xs (second_true (p x) (list_all p xs) all))

pub list_all-both : {X : Type 0} (p : X → Bool) (xs ys : List X) → list_all p xs ≡ true → list_all p ys ≡ true → list_all p (xs ++ ys) ≡ true
list_all-both p [] ys left right = right
list_all-both p (x ∷ xs) ys left right = both_true (first_true (p x) (list_all p xs) left) (list_all-both p xs ys (second_true (p x) (list_all p xs) left) right)

-- bytes that all pass a test do not contain a byte that fails it
pub lacks : (p : ℕ → Bool) (byte : ℕ) → p byte ≡ false → (bytes : List ℕ) → list_all p bytes ≡ true → IsPiece byte bytes
lacks p byte fails bytes all =
    All-weaker (λ c. p c ≡ true) (λ c. c ≢ byte) (λ c passes same. let clash : true ≡ false = sym passes ∙ ap p same ∙ fails in absurd cc) bytes (AllPass-from_list_all p bytes all)

decimal_some : (most n : ℕ) (word : List ℕ) → number most word ≡ Some n → is_word word ≡ true
decimal_some most n [] read = absurd cc
decimal_some most n (c ∷ cs) read = refl

pub decimal_field : (n : ℕ) → n < 2 ^ 64 → IsField (decimal n)
decimal_field n small = record {
  some = decimal_some (2 ^ 64 - 1) n (decimal n) (number-decimal (2 ^ 64 - 1) n (omega arith) (omega arith));
  bytes = list_all-from_AllPass is_field_byte (decimal n)
      (All-weaker (λ c. IsTrue (is_ascii_digit c)) (λ c. is_field_byte c ≡ true) (λ c digit. grind (arith, nat_tests)) (decimal n) (digits-decimal n small));
}

hex_byte : (c : ℕ) → IsSome (hex_digit c) → is_field_byte c ≡ true
hex_byte c some = grind (arith, nat_tests)

pub address_field : (n : ℕ) → n < 2 ^ 64 → IsField (spelled_address n)
address_field n small = record {
  some = refl;
  bytes = list_all-from_AllPass is_field_byte (digits 16 false n)
      (All-weaker (λ c. IsSome (hex_digit c)) (λ c. is_field_byte c ≡ true) hex_byte (digits 16 false n) (digits-hex n small));
}

field_byte : (c : ℕ) → is_field_byte c ≡ true → is_word_byte c ≡ true
field_byte c passes = grind (arith, nat_tests)

pub field_8 : (n : ℕ) → n < 2 ^ 8 → IsField (decimal n)
field_8 n small = decimal_field n (omega arith)

pub field_16 : (n : ℕ) → n < 2 ^ 16 → IsField (decimal n)
field_16 n small = decimal_field n (omega arith)

pub field_32 : (n : ℕ) → n < 2 ^ 32 → IsField (decimal n)
field_32 n small = decimal_field n (omega arith)

-- the bytes of a number or an address are bytes of a word
pub field_bytes : (word : List ℕ) → IsField word → list_all is_word_byte word ≡ true
field_bytes word field = list_all-weaker is_field_byte is_word_byte field_byte word field.bytes

-- a number or an address is a plain word
pub field_word : (word : List ℕ) → IsField word → is_plain_word word ≡ true
field_word word field = both_true field.some (field_bytes word field)

-- a number or an address does not contain a separator
pub field_piece : (separator : ℕ) → is_field_byte separator ≡ false → (word : List ℕ) → IsField word → IsPiece separator word
field_piece separator fails word field = lacks is_field_byte separator fails word field.bytes

-- plain words with a space between each two are taken apart again
pub parts-spaced : (word : List ℕ) (words : List (List ℕ)) → list_all is_plain_word (word ∷ words) ≡ true → parts 32 (joined 32 (word ∷ words)) ≡ word ∷ words
parts-spaced word words plain = parts-joined 32 word words
    (All-weaker (λ w. is_plain_word w ≡ true) (IsPiece 32) (λ w passes. lacks is_word_byte 32 refl w (second_true (is_word w) (list_all is_word_byte w) passes)) (word ∷ words)
    (AllPass-from_list_all is_plain_word (word ∷ words) plain))

word_prints : (word : List ℕ) → is_plain_word word ≡ true → list_all is_printable word ≡ true
word_prints word plain =
    list_all-weaker is_word_byte is_printable (λ c passes. first_true (is_printable c) (not (c == 32)) passes) word (second_true (is_word word) (list_all is_word_byte word) plain)

line_prints : (word : List ℕ) (words : List (List ℕ)) → list_all is_plain_word (word ∷ words) ≡ true → list_all is_printable (joined 32 (word ∷ words)) ≡ true
line_prints word [] plain = word_prints word (first_true (is_plain_word word) true plain)
line_prints word (next ∷ words) plain =
    let more = second_true (is_plain_word word) (list_all is_plain_word (next ∷ words)) plain in
    list_all-both is_printable word (32 ∷ joined 32 (next ∷ words)) (word_prints word (first_true (is_plain_word word) _ plain)) (line_prints next words more)

-- a line of plain words is well formed
pub is_plain-spaced : (word : List ℕ) (words : List (List ℕ)) → list_all is_plain_word (word ∷ words) ≡ true → is_plain (joined 32 (word ∷ words)) ≡ true
is_plain-spaced word words plain = both_true (line_prints word words plain)
    (ap (list_all is_word) (parts-spaced word words plain)
    ∙ list_all-weaker is_plain_word is_word (λ w passes. first_true (is_word w) (list_all is_word_byte w) passes) (word ∷ words) plain)

-- a line of plain words begins with the first of them
pub begins_with-spaced : (word first : List ℕ) (others : List (List ℕ)) → list_all is_plain_word (first ∷ others) ≡ true
    → begins_with word (joined 32 (first ∷ others)) ≡ same_word first word
begins_with-spaced word first others plain = rw (parts-spaced first others plain) refl

-- the arguments of a line of plain words are the words after the first
pub arguments-spaced : (word : List ℕ) (words : List (List ℕ)) → same_word word word ≡ true → list_all is_plain_word (word ∷ words) ≡ true
    → arguments word (joined 32 (word ∷ words)) ≡ Ok words
arguments-spaced word words same plain =
    let begins = begins_with-spaced word word words plain ∙ same in
    rw (begins, is_plain-spaced word words plain, parts-spaced word words plain) refl
