-- Receipts with their workers in two lists.
use Rattle.std.specs.Prelude.{◌≡◌, ℕ, List, [], ◌∷◌, map}
use Rattle.run_journal.specs.declared.entry.Receipt.{Receipt}

-- each worker with its receipt
abbrev pub zipped : List ℕ → List Receipt → List (ℕ × Receipt)
zipped [] receipts = []
zipped (w ∷ ws) [] = []
zipped (w ∷ ws) (r ∷ rs) = (w, r) ∷ zipped ws rs

-- each list has its part
pub record AreColumns (xs : List (ℕ × Receipt)) (workers : List ℕ) (receipts : List Receipt) : Type 0 where
  pub worker : workers ≡ map (λ x. x.0) xs
  pub receipt : receipts ≡ map (λ x. x.1) xs
