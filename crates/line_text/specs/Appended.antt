-- What an append that failed leaves.
use Rattle.std.specs.Prelude.{◌≡◌, ℕ, List, length, take}

-- the new text begins with the old one
pub record KeepsFront (old new : List ℕ) : Type 0 where
  pub front : take (length old) new ≡ old
