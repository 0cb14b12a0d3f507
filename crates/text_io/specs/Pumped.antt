-- Texts that are given a piece at a time.
use Rattle.std.specs.Prelude.{◌≡◌, ℕ, ◌++◌, List}

-- what was appended and what is left are together what was left, for each text that it may be
abbrev pub GoesOn : (List ℕ → Type 0) → List ℕ → (List ℕ → Type 0) → List ℕ → Type 0
GoesOn left out next more = (text : List ℕ) → left text → (rest : List ℕ) × next rest × (more ++ rest ≡ out ++ text)

-- all that was left was appended
abbrev pub Ends : (List ℕ → Type 0) → List ℕ → List ℕ → Type 0
Ends left out more = (text : List ℕ) → left text → more ≡ out ++ text
