-- Text that is handed over piece by piece.
use Rattle.std.specs.Prelude.{◌≡◌, ℕ, List, ◌++◌, Option}
use Rattle.std.specs.Io.KnownBytes.{Appends}

-- the sink gained the front of a text, of which the rest is left
abbrev pub HandsOver : (old new : Option (List ℕ)) → (text rest : List ℕ) → Type 0
HandsOver old new text rest = (front : List ℕ) × Appends old new front × (front ++ rest ≡ text)
