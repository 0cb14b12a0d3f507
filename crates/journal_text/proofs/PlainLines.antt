-- Plain words, which numbers and addresses are, and lines of such words.
use Rattle.std.proofs.Common.{◌≡◌, ◌≢◌, ◌^◌, ◌<◌, ◌-◌, ◌∷◌, [], ℕ, Bool, true, false, not, ◌&&◌, ◌==◌, List, Some, Ok, Err, refl, sym, ap, ◌∙◌, decimal, arith, codes, drop, IsTrue, IsSome}
use Rattle.std.proofs.lemmas.Bool.Decides.{nat_tests}
use Rattle.std.proofs.lemmas.List.Elements.{All-weaker}
use Rattle.std.proofs.lemmas.List.Folds.{list_all-append}
use Rattle.std.proofs.lemmas.List.Sums.{AllPass-from_list_all, list_all-from_AllPass}
use Rattle.std.specs.Prelude.{Result, if◌then◌else◌}
use Rattle.std.specs.Char.{is_ascii_digit}
use Rattle.std.specs.Cmp.Derive.{both_true}
use Rattle.std.specs.Fmt.{digits}
use Rattle.std.specs.List.{list_all}
use Rattle.damon_types.specs.declared.scheme.Version.{Version}
use Rattle.line_text.specs.Address.{hex_digit, spelled_address}
use Rattle.line_text.specs.Number.{number}
use Rattle.line_text.specs.Parts.{IsPiece, is_plain, is_printable, is_word, joined, parts}
use Rattle.line_text.proofs.Lemmas.{digits-decimal, digits-hex, number-decimal, parts-joined}
use Rattle.live_commit.specs.Commit.{CommitValue}
use Rattle.script_lines.specs.declared.kind.ScriptKind.{ScriptKind}
use Rattle.script_lines.specs.declared.kind.ScriptKind.TheVariants.{Form, Word}
use Rattle.script_lines.specs.declared.part.Part.{Part}
use Rattle.script_lines.specs.declared.part.Part.TheVariants.{Attrs, Range, Slot, Metric, Cost}
use Rattle.script_lines.specs.Body.{change_line, drop_line, part_line, wants_attrs, wants_cost, wants_metric, wants_slot}
use Rattle.script_lines.specs.Fields.{attrs_in, cost_in, range_in}
use Rattle.script_lines.specs.Keys.{scheme_in}
use Rattle.script_lines.specs.Refusal.{◌>>=◌}
use Rattle.script_lines.specs.Words.{arguments, begins_with, number_8, number_32, one_word, same_word}
use Rattle.journal_text.proofs.Common.{both_are, bind-Ok, either_way}

-- ---- bytes of words

-- a byte of a word: printable and no space
abbrev pub is_word_byte : ℕ → Bool
is_word_byte c = is_printable c && not (c == 32)

-- a word that is not empty, with bytes of a word only
abbrev pub is_plain_word : List ℕ → Bool
is_plain_word word = is_word word && list_all is_word_byte word

-- what passes a test passes a weaker one
weaker : {X : Type 0} (p q : X → Bool) → ((x : X) → p x ≡ true → q x ≡ true) → (xs : List X) → list_all p xs ≡ true → list_all q xs ≡ true
weaker p q on xs all = list_all-from_AllPass q xs (All-weaker (λ x. p x ≡ true) (λ x. q x ≡ true) on xs (AllPass-from_list_all p xs all))

-- bytes that all pass a test do not contain a byte that fails it
lacks : (p : ℕ → Bool) (byte : ℕ) → p byte ≡ false → (bytes : List ℕ) → list_all p bytes ≡ true → IsPiece byte bytes
lacks p byte fails bytes all =
    All-weaker (λ c. p c ≡ true) (λ c. c ≢ byte) (λ c passes same. let clash : true ≡ false = sym passes ∙ ap p same ∙ fails in absurd cc) bytes (AllPass-from_list_all p bytes all)

-- bytes that print have no LF
pub literal : (bytes : List ℕ) → list_all is_printable bytes ≡ true → IsPiece 10 bytes
literal bytes prints = lacks is_printable 10 refl bytes prints

-- ---- numbers and addresses are plain words

-- a word that is read as a number is not empty
decimal_some : (most n : ℕ) (word : List ℕ) → number most word ≡ Some n → is_word word ≡ true
decimal_some most n [] read = absurd cc
decimal_some most n (c ∷ cs) read = refl

-- a number of 64 bits is a plain word
pub decimal_word : (n : ℕ) → n < 2 ^ 64 → is_plain_word (decimal n) ≡ true
decimal_word n small = both_true
    (decimal_some (2 ^ 64 - 1) n (decimal n) (number-decimal (2 ^ 64 - 1) n (omega arith) (omega arith)))
    (list_all-from_AllPass is_word_byte (decimal n)
    (All-weaker (λ c. IsTrue (is_ascii_digit c)) (λ c. is_word_byte c ≡ true) (λ c digit. grind (arith, nat_tests)) (decimal n) (digits-decimal n small)))

-- a hexadecimal digit is a byte of a word
hex_byte : (c : ℕ) → IsSome (hex_digit c) → is_word_byte c ≡ true
hex_byte c some = grind (arith, nat_tests)

-- an address is a plain word
pub address_word : (n : ℕ) → n < 2 ^ 64 → is_plain_word (spelled_address n) ≡ true
address_word n small =
    list_all-from_AllPass is_word_byte (digits 16 false n)
    (All-weaker (λ c. IsSome (hex_digit c)) (λ c. is_word_byte c ≡ true) hex_byte (digits 16 false n) (digits-hex n small))

-- the bytes of a plain word print
word_prints : (word : List ℕ) → is_plain_word word ≡ true → list_all is_printable word ≡ true
word_prints word plain =
    weaker is_word_byte is_printable (λ c passes. (both_are (is_printable c) (not (c == 32)) passes).0) word (both_are (is_word word) (list_all is_word_byte word) plain).1

-- the digits of a number have no LF
pub number_piece : (n : ℕ) → n < 2 ^ 64 → IsPiece 10 (decimal n)
number_piece n small = literal (decimal n) (word_prints (decimal n) (decimal_word n small))

-- ---- lines of plain words

-- plain words with a space between each two are taken apart again
parts-spaced : (word : List ℕ) (words : List (List ℕ)) → list_all is_plain_word (word ∷ words) ≡ true → parts 32 (joined 32 (word ∷ words)) ≡ word ∷ words
parts-spaced word words plain = parts-joined 32 word words
    (All-weaker (λ w. is_plain_word w ≡ true) (IsPiece 32) (λ w passes. lacks is_word_byte 32 refl w (both_are (is_word w) (list_all is_word_byte w) passes).1) (word ∷ words)
    (AllPass-from_list_all is_plain_word (word ∷ words) plain))

-- and so do those of a line of such words
pub line_prints : (word : List ℕ) (words : List (List ℕ)) → list_all is_plain_word (word ∷ words) ≡ true → list_all is_printable (joined 32 (word ∷ words)) ≡ true
line_prints word [] plain = word_prints word (both_are (is_plain_word word) true plain).0
line_prints word (next ∷ words) plain =
    let both = both_are (is_plain_word word) (list_all is_plain_word (next ∷ words)) plain in
    list_all-append is_printable word (32 ∷ joined 32 (next ∷ words)) ∙ both_true (word_prints word both.0) (line_prints next words both.1)

-- a line of plain words is well formed
is_plain-spaced : (word : List ℕ) (words : List (List ℕ)) → list_all is_plain_word (word ∷ words) ≡ true → is_plain (joined 32 (word ∷ words)) ≡ true
is_plain-spaced word words plain = both_true (line_prints word words plain)
    (ap (list_all is_word) (parts-spaced word words plain)
    ∙ weaker is_plain_word is_word (λ w passes. (both_are (is_word w) (list_all is_word_byte w) passes).0) (word ∷ words) plain)

-- the arguments of a line of plain words are the words after the first
pub arguments-spaced : (word : List ℕ) (words : List (List ℕ)) → same_word word word ≡ true → list_all is_plain_word (word ∷ words) ≡ true
    → arguments word (joined 32 (word ∷ words)) ≡ Ok words
arguments-spaced word words same plain =
    let apart = parts-spaced word words plain in
    let begins : begins_with word (joined 32 (word ∷ words)) ≡ true = rw apart same in
    rw (begins, is_plain-spaced word words plain, apart) refl

-- ---- a line that is accepted is well formed

-- a line has arguments only where it is well formed
arguments_plain : (word line : List ℕ) (words : List (List ℕ)) → arguments word line ≡ Ok words → is_plain line ≡ true
arguments_plain word line words e = by (begins_with word line) (is_plain line) e
  where
    by : (begins plain : Bool) → (if not begins then Err Word else if not plain then Err Form else Ok (drop 1 (parts 32 line))) ≡ Ok words → plain ≡ true
    by true true accepted = refl
    by true false accepted = absurd cc
    by false plain accepted = absurd cc

-- what is accepted of this line makes it well formed
abbrev ShowsPlain : {A : Type 0} → List ℕ → Result A ScriptKind → Type 0
ShowsPlain {A} line r = (x : A) → r ≡ Ok x → is_plain line ≡ true

-- and further steps are taken only after that
plain_on : {A B : Type 0} (line : List ℕ) (r : Result A ScriptKind) (f : A → Result B ScriptKind) → ShowsPlain line r → ShowsPlain line (r >>= f)
plain_on line r f plain y e = let first = bind-Ok r f y e in plain first.0 first.1

-- a line of a word, which something is read from
words_plain : {B : Type 0} (word line : List ℕ) (read : List (List ℕ) → Result B ScriptKind) → ShowsPlain line (arguments word line >>= read)
words_plain word line read = plain_on line (arguments word line) read (arguments_plain word line)

-- a line that is read as a part of a commit is well formed
part_plain : (version : Version) (commit : CommitValue) (line : List ℕ) (part : Part) → part_line version commit line ≡ Ok part → is_plain line ≡ true
part_plain version commit line part e =
    either_way (begins_with (codes "attrs") line && wants_attrs commit) _ _ _ (plain_on line (arguments (codes "attrs") line >>= attrs_in) (λ x. Ok (Attrs x)) (words_plain (codes "attrs") line attrs_in) part)
    (either_way (begins_with (codes "range") line && wants_slot commit) _ _ _ (plain_on line (arguments (codes "range") line >>= range_in) (λ x. Ok (Range x)) (words_plain (codes "range") line range_in) part)
    (either_way (begins_with (codes "scheme") line && wants_slot commit) _ _ _ (plain_on line (change_line version line) (λ x. Ok (Slot x)) changes part)
    (either_way (begins_with (codes "drop") line && wants_slot commit) _ _ _ (plain_on line (drop_line line) (λ x. Ok (Slot x)) drops part)
    (either_way (begins_with (codes "metric") line && wants_metric commit) _ _ _ (plain_on line (arguments (codes "metric") line >>= one_word >>= number_32) (λ x. Ok (Metric x)) metrics part)
    (either_way (begins_with (codes "cost") line && wants_cost version commit) _ _ _ (plain_on line (arguments (codes "cost") line >>= cost_in) (λ x. Ok (Cost x)) (words_plain (codes "cost") line cost_in) part)
    (λ word. absurd cc)))))) e
  where
    changes : ShowsPlain line (change_line version line)
    changes = plain_on line (arguments (codes "scheme") line >>= scheme_in version) _ (words_plain (codes "scheme") line (scheme_in version))

    drops : ShowsPlain line (drop_line line)
    drops = plain_on line (arguments (codes "drop") line >>= one_word >>= number_8) _ (plain_on line (arguments (codes "drop") line >>= one_word) number_8 (words_plain (codes "drop") line one_word))

    metrics : ShowsPlain line (arguments (codes "metric") line >>= one_word >>= number_32)
    metrics = plain_on line (arguments (codes "metric") line >>= one_word) number_32 (words_plain (codes "metric") line one_word)

-- and has no LF
pub part_piece : (version : Version) (commit : CommitValue) (line : List ℕ) (part : Part) → part_line version commit line ≡ Ok part → IsPiece 10 line
part_piece version commit line part e =
    literal line (both_are (list_all is_printable line) (list_all is_word (parts 32 line)) (part_plain version commit line part e)).0
