-- What is sent for objects and lists.
use Rattle.std.proofs.Common.{◌≡◌, suc, List, [], ◌∷◌, length, refl, ap}
use Rattle.std.specs.Prelude.{map}
use Rattle.serde_json.specs.Data.{Data}
use Rattle.serde_json.specs.Events.{items_len}
use Rattle.serde_json.specs.View.{items_of}

-- a list has a value for each item
pub items_len-map : {A : Type 0} → (value : A → Data) (xs : List A) → items_len (items_of (map value xs)) ≡ length xs
items_len-map value [] = refl
items_len-map value (x ∷ xs) = ap suc (items_len-map value xs)
