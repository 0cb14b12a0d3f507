-- What a line says, or why it is rejected.
use Rattle.std.specs.Prelude.{Bool, Result, Ok, Err, if◌then◌else◌}
use Rattle.script_lines.specs.declared.kind.ScriptKind.{ScriptKind}

infixl 10 ◌>>=◌
-- the value is passed on, or the rejection
abbrev pub ◌>>=◌ : {A B E : Type 0} → Result A E → (A → Result B E) → Result B E
(Err e) >>= f = Err e
(Ok x) >>= f = f x

-- the value if the test passes, or this rejection
abbrev pub only_if : {A : Type 0} → Bool → ScriptKind → A → Result A ScriptKind
only_if test kind value = if test then Ok value else Err kind

-- the error of a check as the kind of a fault
abbrev pub refused_as : {E : Type 0} → (E → ScriptKind) → Result (Unit {0}) E → Result (Unit {0}) ScriptKind
refused_as kind (Err why) = Err (kind why)
refused_as kind (Ok t) = Ok t
