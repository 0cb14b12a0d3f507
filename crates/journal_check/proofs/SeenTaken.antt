-- The lines of receipts, one after another.
use Rattle.std.proofs.Common.{◌≡◌, ◌<◌, ℕ, List, [], ◌∷◌, length, refl, arith}
use Rattle.damon_types.specs.declared.space.Target.{Target}
use Rattle.line_text.specs.Parts.{parts}
use Rattle.line_text.proofs.Lemmas.{parts_some}
use Rattle.journal_check.specs.Ahead.{in_front_of, seen_ahead}
use Rattle.journal_text.specs.SeenLine.{seen_line}

-- a line that an LF ends says its receipt
pub line_says : (space : List Target) (line rest : List ℕ)
    → seen_ahead space (line ∷ parts 10 rest) ≡ in_front_of (seen_ahead space (parts 10 rest)) (seen_line space line)
line_says space line rest = by (parts 10 rest) (parts_some 10 rest)
  where
    by : (lines : List (List ℕ)) → 0 < length lines → seen_ahead space (line ∷ lines) ≡ in_front_of (seen_ahead space lines) (seen_line space line)
    by [] some = absurd (omega (arith, some))
    by (next ∷ lines) some = refl
