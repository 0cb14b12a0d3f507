-- The touches of a line, counted with those before it.
use Rattle.std.proofs.Common.{◌≡◌, ◌+◌, ℕ, nat_le, List, length, Ok, Err, sym, ap}
use Rattle.std.specs.Prelude.{Result}
use Rattle.script_lines.specs.declared.blocks.TheConstants.{MAX_TOUCHES}
use Rattle.script_lines.specs.declared.kind.ScriptKind.{ScriptKind}
use Rattle.script_lines.specs.declared.kind.ScriptKind.TheVariants.{TooMuch}
use Rattle.script_lines.specs.Blocks.{touched, touched_of}
use Rattle.script_lines.specs.Command.{CommandValue}
use Rattle.script_lines.specs.Refusal.{◌>>=◌, only_if}

pub counted-Ok : (said : Result CommandValue ScriptKind) (before : ℕ) (pages : List ℕ) → Ok pages ≡ touched_of said
    → (said >>= λ command. only_if (nat_le (before + length (touched command)) MAX_TOUCHES) TooMuch (touched command)) ≡ only_if (nat_le (before + length pages) MAX_TOUCHES) TooMuch pages
counted-Ok (Ok command) before pages is =
    let same : pages ≡ touched command = cc in
    ap (λ ps. only_if (nat_le (before + length ps) MAX_TOUCHES) TooMuch ps) (sym same)
counted-Ok (Err kind) before pages is = absurd cc

pub counted-Err : (said : Result CommandValue ScriptKind) (before : ℕ) (kind : ScriptKind) → Err kind ≡ touched_of said
    → (said >>= λ command. only_if (nat_le (before + length (touched command)) MAX_TOUCHES) TooMuch (touched command)) ≡ Err kind
counted-Err (Ok command) before kind is = absurd cc
counted-Err (Err other) before kind is = let same : kind ≡ other = cc in ap (λ k. Err k) (sym same)
