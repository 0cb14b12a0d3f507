-- The words of a line, and the numbers that they spell.
use Rattle.std.specs.Prelude.{ℕ, ◌-◌, ◌^◌, Bool, not, nat_eq, List, [], ◌∷◌, drop, Option, Result, Ok, Err, if◌then◌else◌}
use Rattle.std.specs.Cmp.Lexicographic.{pointwise}
use Rattle.std.specs.Borrow.{Bor}
use Rattle.std.specs.Option.{ok_or, option_copied}
use Rattle.line_text.specs.Address.{address}
use Rattle.line_text.specs.Number.{number}
use Rattle.line_text.specs.Parts.{is_plain, one_of, parts, parts_left}
use Rattle.script_lines.specs.declared.kind.ScriptKind.{ScriptKind}
use Rattle.script_lines.specs.declared.kind.ScriptKind.TheVariants.{Word, Form, Number}
use Rattle.script_lines.specs.Refusal.{◌>>=◌}

-- the words of a text, or no words if there is no text
abbrev pub words_in : Option (Bor (List ℕ)) → List (List ℕ)
words_in text = parts_left 32 (option_copied text)

-- whether two words are the same
abbrev pub same_word : List ℕ → List ℕ → Bool
same_word a b = pointwise nat_eq a b

-- whether the first word of a line, up to a space or the line's end, is this one
abbrev pub begins_with : List ℕ → List ℕ → Bool
begins_with word line = first_is (parts 32 line)
  where
    first_is : List (List ℕ) → Bool
    first_is [] = same_word [] word
    first_is (first ∷ rest) = same_word first word

-- the words after the first, of a well-formed line that begins with this one
abbrev pub arguments : List ℕ → List ℕ → Result (List (List ℕ)) ScriptKind
arguments word line =
    if not (begins_with word line) then Err Word
    else if not (is_plain line) then Err Form
    else Ok (drop 1 (parts 32 line))

-- no word
abbrev pub no_word : List (List ℕ) → Result (Unit {0}) ScriptKind
no_word [] = Ok tt
no_word (word ∷ words) = Err Form

-- a line of this word alone
abbrev pub alone : List ℕ → List ℕ → Result (Unit {0}) ScriptKind
alone word line = arguments word line >>= no_word

-- a number of 8 bits
abbrev pub number_8 : List ℕ → Result ℕ ScriptKind
number_8 word = ok_or (number (2 ^ 8 - 1) word) Number

-- a number of 16 bits
abbrev pub number_16 : List ℕ → Result ℕ ScriptKind
number_16 word = ok_or (number (2 ^ 16 - 1) word) Number

-- a number of 32 bits
abbrev pub number_32 : List ℕ → Result ℕ ScriptKind
number_32 word = ok_or (number (2 ^ 32 - 1) word) Number

-- a number of 64 bits
abbrev pub number_64 : List ℕ → Result ℕ ScriptKind
number_64 word = ok_or (number (2 ^ 64 - 1) word) Number

-- an address
abbrev pub byte_address : List ℕ → Result ℕ ScriptKind
byte_address word = ok_or (address word) Number

-- the one word that there is
abbrev pub one_word : List (List ℕ) → Result (List ℕ) ScriptKind
one_word words = ok_or (one_of words) Form
