-- What borrowed parts of a line show.
use Rattle.std.specs.Prelude.{ℕ, List, Option, Result, Ok, Err}
use Rattle.std.specs.Borrow.{Bor}
use Rattle.script_lines.specs.declared.kind.ScriptKind.{ScriptKind}
use Rattle.script_lines.specs.Words.{words_in}

-- the words of a text that may be missing
abbrev pub shown_words : Result (Option (Bor (List ℕ))) ScriptKind → Result (List (List ℕ)) ScriptKind
shown_words (Ok words) = Ok (words_in words)
shown_words (Err kind) = Err kind

-- one word
abbrev pub shown_one : Result (Bor (List ℕ)) ScriptKind → Result (List ℕ) ScriptKind
shown_one (Ok word) = Ok word.now
shown_one (Err kind) = Err kind

-- two words
abbrev pub shown_two : Result (Bor (List ℕ) × Bor (List ℕ)) ScriptKind → Result (List ℕ × List ℕ) ScriptKind
shown_two (Ok words) = Ok (words.0.now, words.1.now)
shown_two (Err kind) = Err kind

-- three words
abbrev pub shown_three : Result (Bor (List ℕ) × Bor (List ℕ) × Bor (List ℕ)) ScriptKind → Result (List ℕ × List ℕ × List ℕ) ScriptKind
shown_three (Ok words) = Ok (words.0.now, words.1.now, words.2.now)
shown_three (Err kind) = Err kind

-- four words
abbrev pub shown_four : Result (Bor (List ℕ) × Bor (List ℕ) × Bor (List ℕ) × Bor (List ℕ)) ScriptKind → Result (List ℕ × List ℕ × List ℕ × List ℕ) ScriptKind
shown_four (Ok words) = Ok (words.0.now, words.1.now, words.2.now, words.3.now)
shown_four (Err kind) = Err kind
