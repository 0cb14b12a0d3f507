-- The lines of an input for several contexts.
use Rattle.std.specs.Prelude.{ℕ, ◌+◌, ◌-◌, ◌==◌, ◌&&◌, Bool, nat_le, List, [], ◌∷◌, map, codes, Result, Ok, Err}
use Rattle.std.specs.List.{filter}
use Rattle.line_text.specs.Parts.{parts}
use Rattle.script_lines.specs.declared.kind.ScriptKind.{ScriptKind}
use Rattle.script_lines.specs.declared.kind.ScriptKind.TheVariants.{Cut, Form, Header}
use Rattle.script_lines.specs.Lines.{lines_text}
use Rattle.script_lines.specs.Refusal.{◌>>=◌, only_if}
use Rattle.script_lines.specs.Words.{same_word}
use Rattle.damon_control.specs.declared.fault.ScriptFault.{ScriptFault}
use Rattle.damon_control.specs.Script.{at}

-- a line of a context, as the context has it
pub record ContextLine : Type 0 where
  pub context : ℕ
  pub line : List ℕ

-- the first line of the input
abbrev pub header : List ℕ
header = codes "damon admin 1"

-- whether a byte is the digit of a context, from 0 to 7
abbrev pub is_context : ℕ → Bool
is_context digit = nat_le 48 digit && nat_le digit 55

-- a later line: the digit of a context, a space, and a line of that context
abbrev pub context_line : List ℕ → Result ContextLine ScriptKind
context_line (digit ∷ space ∷ line) =
    only_if (is_context digit && (space == 32)) Form (record { context = digit - 48; line = line })
context_line _ = Err Form

-- the lines of contexts, of which the first is line n of the input; the last item is the bytes after the last LF
abbrev pub split_from : ℕ → List (List ℕ) → Result (List ContextLine) ScriptFault
split_from n [] = Ok []
split_from n ([] ∷ []) = Ok []
split_from n ((b ∷ bs) ∷ []) = at n (Err Cut)
split_from n (line ∷ next ∷ more) =
    at n (context_line line) >>= λ first. split_from (n + 1) (next ∷ more) >>= λ others. Ok (first ∷ others)

-- the lines of contexts after the header
abbrev pub split : List (List ℕ) → Result (List ContextLine) ScriptFault
split (line ∷ next ∷ more) = at 1 (only_if (same_word line header) Header (tt {0})) >>= λ _. split_from 2 (next ∷ more)
split _ = at 1 (Err Cut)

-- the lines of contexts that an input says, or its first refused line and the kind of its fault
abbrev pub lines_said : List ℕ → Result (List ContextLine) ScriptFault
lines_said input = split (parts 10 input)

-- the lines of one context
abbrev pub lines_of : ℕ → List ContextLine → List (List ℕ)
lines_of context lines = map (λ l. l.line) (filter (λ l. l.context == context) lines)

-- their text
abbrev pub context_text : ℕ → List ContextLine → List ℕ
context_text context lines = lines_text (lines_of context lines)
