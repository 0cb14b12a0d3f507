-- Lines of receipts at the front of a text.
use Rattle.std.specs.Prelude.{◌≡◌, ℕ, ◌^◌, ◌<◌, List, ◌∷◌, ◌++◌}
use Rattle.damon_types.specs.declared.space.Target.{Target}
use Rattle.run_journal.specs.declared.entry.Receipt.{Receipt}
use Rattle.journal_text.specs.SeenLine.{PlaceFits}
use Rattle.journal_text.specs.Spelled.{spelled_seen}

-- a text begins with the line of a receipt of a worker, in its one spelling, and goes on with the rest
pub record BeginsWithSeen (space : List Target) (text : List ℕ) (seen : ℕ × Receipt) (rest : List ℕ) : Type 0 where
  pub worker : seen.0 < 2 ^ 8
  pub place : PlaceFits space seen.1.page
  pub tag : seen.1.tag < 2 ^ 64
  pub whole : text ≡ spelled_seen space seen.0 seen.1 ++ 10 ∷ rest
