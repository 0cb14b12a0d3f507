-- What borrowed parts of a scheme's words show.
use Rattle.std.specs.Prelude.{ℕ, Bool, List, Result, Ok, Err}
use Rattle.std.specs.Borrow.{Bor}
use Rattle.script_lines.specs.declared.kind.ScriptKind.{ScriptKind}
use Rattle.script_lines.specs.declared.keys.Key.{Key}

-- a key and its value
abbrev pub view_key : Result (Key × Bor (List ℕ)) ScriptKind → Result (Key × List ℕ) ScriptKind
view_key (Ok both) = Ok (both.0, both.1.now)
view_key (Err kind) = Err kind

-- whether a name has no `not-` before it, and the name without it
abbrev pub view_name : Bool × Bor (List ℕ) → Bool × List ℕ
view_name both = (both.0, both.1.now)
