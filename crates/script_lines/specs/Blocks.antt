-- The lines of a live script that a script does not have.
use Rattle.std.specs.Prelude.{ℕ, ◌+◌, ◌-◌, nat_le, nat_lt, List, [], ◌∷◌, length, codes, Result, Ok, Err, if◌then◌else◌}
use Rattle.std.specs.List.{range_with_len}
use Rattle.damon_types.specs.declared.space.Target.{Target}
use Rattle.script_lines.specs.declared.blocks.Pages.{Pages}
use Rattle.script_lines.specs.declared.blocks.TheConstants.{MAX_PASSES, MAX_TOUCHES}
use Rattle.script_lines.specs.declared.kind.ScriptKind.{ScriptKind}
use Rattle.script_lines.specs.declared.kind.ScriptKind.TheVariants.{Limit, TooMuch}
use Rattle.script_lines.specs.Body.{sweep_line, touch_line}
use Rattle.script_lines.specs.Command.{CommandValue, Sweep, Touch}
use Rattle.script_lines.specs.Head.{limited}
use Rattle.script_lines.specs.Refusal.{◌>>=◌, only_if}
use Rattle.script_lines.specs.Words.{alone, arguments, begins_with, number_32, one_word}

-- `passes N`
abbrev pub passes_line : List ℕ → Result ℕ ScriptKind
passes_line line = arguments (codes "passes") line >>= one_word >>= number_32 >>= limited 1 MAX_PASSES

-- a line of this word alone, which begins a block: `count` blocks stand before it, and at most `most` are allowed
abbrev pub block_line : List ℕ → List ℕ → ℕ → ℕ → Result (Unit {0}) ScriptKind
block_line word line count most = alone word line >>= λ _. only_if (nat_lt count most) Limit (tt {0})

-- the pages that a command touches, in order
abbrev pub touched : CommandValue → List ℕ
touched (Touch page) = page ∷ []
touched (Sweep from to) = range_with_len from (to - from)
touched _ = []

-- `touch TARGET ADDRESS` or `sweep TARGET FROM TO`
abbrev pub touching : List Target → List ℕ → Result CommandValue ScriptKind
touching space line = if begins_with (codes "touch") line then touch_line space line else sweep_line space line

-- the pages of such a line, where they and this number of touches before them are at most MAX_TOUCHES
abbrev pub touches_within : List Target → List ℕ → ℕ → Result (List ℕ) ScriptKind
touches_within space line before = do
  command ← touching space line
  only_if (nat_le (before + length (touched command)) MAX_TOUCHES) TooMuch (touched command)

-- consecutive pages
abbrev pub page_list : Pages → List ℕ
page_list p = range_with_len p.from (p.to - p.from)

-- the pages that were read, or why not
abbrev pub pages_said : Result Pages ScriptKind → Result (List ℕ) ScriptKind
pages_said (Ok pages) = Ok (page_list pages)
pages_said (Err kind) = Err kind

-- the pages that a line touches, or why it is rejected
abbrev pub touched_of : Result CommandValue ScriptKind → Result (List ℕ) ScriptKind
touched_of said = said >>= λ command. Ok (touched command)
