-- Worked examples of watermarks, computed by hand.
use Rattle.std.proofs.Common.{◌≡◌, ℕ, Bool, true, false, List, [], ◌∷◌, map, take, Option, Some, None, refl}
use Rattle.damon_types.specs.declared.scheme.Marks.{Marks}
use Rattle.watermarks.specs.Active.{is_active}

abbrev marks : Option Marks
marks = Some (record { high = 500; mid = 400; low = 200 })

abbrev metrics : List ℕ
metrics = 450 ∷ 399 ∷ 450 ∷ 501 ∷ 450 ∷ 200 ∷ 199 ∷ []

-- whether a slot is active after the first n metrics
abbrev active_after : ℕ → Bool
active_after n = is_active marks (take n metrics)

-- active after 399, which 450 leaves, and after 200
in_turn : map active_after (0 ∷ 1 ∷ 2 ∷ 3 ∷ 4 ∷ 5 ∷ 6 ∷ 7 ∷ []) ≡ false ∷ false ∷ true ∷ true ∷ false ∷ false ∷ true ∷ false ∷ []
in_turn = refl

-- mid and high themselves leave the slot as it is
ends_leave : is_active marks (300 ∷ 400 ∷ 500 ∷ []) ≡ true
ends_leave = refl

ends_leave_inactive : is_active marks (400 ∷ 500 ∷ []) ≡ false
ends_leave_inactive = refl

without_marks : is_active None (501 ∷ 199 ∷ []) ≡ true
without_marks = refl
