-- Touch lines at the front of a text.
use Rattle.std.specs.Prelude.{◌≡◌, ℕ, List, ◌∷◌, ◌++◌}
use Rattle.damon_types.specs.declared.space.Target.{Target}
use Rattle.script_lines.specs.Laws.{IsTouch}

-- a text begins with a line that touches this page, and goes on with the rest
pub record BeginsWithTouch (space : List Target) (text : List ℕ) (page : ℕ) (rest : List ℕ) : Type 0 where
  pub line : List ℕ
  pub touch : IsTouch space line page
  pub whole : text ≡ line ++ 10 ∷ rest
