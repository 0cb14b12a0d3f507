-- A line that is written field by field.
use Rattle.std.proofs.Common.{◌≡◌, ℕ, List, ◌++◌, ap, ◌∙◌, append_assoc}

-- a field, and then what follows it
pub after_field : (x y z name value rest : List ℕ) → y ≡ x ++ (name ++ value) → z ≡ y ++ rest → z ≡ x ++ (name ++ (value ++ rest))
after_field x y z name value rest field more =
    more
    ∙ ap (λ t. t ++ rest) field
    ∙ append_assoc x (name ++ value) rest
    ∙ ap (λ t. x ++ t) (append_assoc name value rest)
