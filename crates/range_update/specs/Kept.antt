-- Which boundaries are kept, said of each page by itself, and the pieces between them.
use Rattle.std.specs.Prelude.{◌≡◌, ℕ, ◌+◌, ◌<◌, Bool, ◌&&◌, ◌||◌, ◌==◌, nat_le, nat_lt, max, List, [], ◌∷◌, ◌++◌, if◌then◌else◌}
use Rattle.std.specs.List.{list_any}
use Rattle.damon_types.specs.declared.range.Range.{Range}
use Rattle.damon_types.specs.declared.row.Row.{Row}
use Rattle.damon_types.specs.Ranges.{end_of}
use Rattle.range_update.specs.Order.{row_end}
use Rattle.range_update.specs.Updated.{pieces}

-- whether a page is one of these
abbrev pub is_in : ℕ → List ℕ → Bool
is_in x ks = list_any (λ k. k == x) ks

-- whether an old row starts or ends at page x, strictly between pages a and b
abbrev pub is_boundary : List Row → ℕ → ℕ → ℕ → Bool
is_boundary rows a b x = list_any (λ r. (r.start == x) || (row_end r == x)) rows && (nat_lt a x && nat_lt x b)

-- the greatest of these pages below page x, or page a where that is greater or there is none
abbrev pub greatest_below : ℕ → List ℕ → ℕ → ℕ
greatest_below a [] x = a
greatest_below a (k ∷ ks) x = if nat_lt k x then max k (greatest_below a ks x) else greatest_below a ks x

-- each page is above the one before it, and the first above page p
abbrev pub AscendingFrom : ℕ → List ℕ → Type 0
AscendingFrom p [] = Unit {0}
AscendingFrom p (k ∷ ks) = (p < k) × AscendingFrom k ks

-- The boundaries that a new range from page a to before page b keeps, in ascending order: a boundary is one of them exactly
-- where it is at least `unit` pages after the greatest of them below it (or after a), and at least `unit` pages before b.
pub record IsKept (rows : List Row) (unit a b : ℕ) (ks : List ℕ) : Type 0 where
  pub ascending : AscendingFrom a ks
  pub each : (x : ℕ) → is_in x ks ≡ (is_boundary rows a b x && (nat_le (greatest_below a ks x + unit) x && nat_le (x + unit) b))

-- the rows are, for each new range in order, the pieces between the boundaries that it keeps
abbrev pub ArePieces : ℕ → List Row → List Range → List Row → Type 0
ArePieces unit rows [] new = new ≡ []
ArePieces unit rows (g ∷ gs) new =
    (ks : List ℕ) × (back : List Row) × IsKept rows unit g.first (end_of g) ks × (new ≡ pieces rows g.target (end_of g) g.first ks ++ back) × ArePieces unit rows gs back
