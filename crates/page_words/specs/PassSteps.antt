-- The steps of a pass.
use Rattle.std.specs.Prelude.{ℕ, ◌+◌, ◌*◌, Bool, List, [], ◌∷◌, cond, map}
use Rattle.page_words.specs.declared.view.Entry.{Entry}
use Rattle.page_words.specs.declared.view.Entry.TheVariants.{Clear, Load}

-- the clears of a pass
abbrev pub clear_steps : ℕ → List ℕ → List Entry
clear_steps pass picks = map (λ page. Clear page pass) picks

-- the loads of a pass: each word names the pass, and its lowest bit is the result
abbrev pub load_steps : ℕ → List ℕ → List Bool → List Entry
load_steps pass (page ∷ picks) (bit ∷ bits) = Load page (2 * pass + cond bit 1 0) ∷ load_steps pass picks bits
load_steps pass _ _ = []
