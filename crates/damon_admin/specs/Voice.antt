-- What the contexts say in the output.
use Rattle.std.specs.Prelude.{ℕ, ◌+◌, ◌==◌, ◌&&◌, Bool, false, List, [], ◌∷◌, drop, map}
use Rattle.std.specs.List.{filter}
use Rattle.line_text.specs.Parts.{parts}
use Rattle.script_lines.specs.Lines.{lines_text}

-- the items of a list but for the last
abbrev pub all_but_last : List (List ℕ) → List (List ℕ)
all_but_last [] = []
all_but_last (item ∷ []) = []
all_but_last (item ∷ next ∷ more) = item ∷ all_but_last (next ∷ more)

-- the lines of a text, each of which an LF ends
abbrev pub lines_in : List ℕ → List (List ℕ)
lines_in text = all_but_last (parts 10 text)

-- a line of output as its context says it: the context's digit and a space before it
abbrev pub spoken_line : ℕ → List ℕ → List ℕ
spoken_line context line = (48 + context) ∷ 32 ∷ line

-- the lines of a text as a context says them
abbrev pub spoken : ℕ → List ℕ → List ℕ
spoken context text = lines_text (map (spoken_line context) (lines_in text))

-- whether a line of output is one of a context: it begins with the context's digit and a space
abbrev pub is_of : ℕ → List ℕ → Bool
is_of context (digit ∷ space ∷ line) = (digit == 48 + context) && (space == 32)
is_of context _ = false

-- the voice of a context: the text of its lines of output, each without the digit and the space
abbrev pub voice : ℕ → List ℕ → List ℕ
voice context output = lines_text (map (λ line. drop 2 line) (filter (is_of context) (lines_in output)))
