-- The last of a list.
use Rattle.std.proofs.Common.{◌≡◌, ◌-◌, List, [], ◌∷◌, ◌++◌, length, None, Some, refl, arith}
use Rattle.std.specs.Prelude.{Option, slice_get}
use Rattle.std.specs.List.{last_or}

last_at_length : {A : Type 0} (x : A) (xs : List A) → slice_get (x ∷ xs) (length xs) ≡ last_or (Some x) xs
last_at_length x [] = refl
last_at_length x (y ∷ ys) = last_at_length y ys

-- the last one, by its index
pub last_by_index : {A : Type 0} (xs : List A) → slice_get xs (length xs - 1) ≡ last_or None xs
last_by_index [] = refl
last_by_index (x ∷ xs) =
    let front : length (x ∷ xs) - 1 ≡ length xs = omega arith in
    rw front (last_at_length x xs)

-- one that is appended is the last
pub last_or_push : {A : Type 0} (before : Option A) (xs : List A) (x : A) → last_or before (xs ++ x ∷ []) ≡ Some x
last_or_push before [] x = refl
last_or_push before (y ∷ ys) x = last_or_push (Some y) ys x
