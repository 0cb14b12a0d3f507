-- Rows of which one is cut in two.
use Rattle.std.proofs.Common.{◌≡◌, ℕ, zero, suc, ◌+◌, ◌<◌, List, [], ◌∷◌, length, length-append, refl, ap, arith}
use Rattle.std.proofs.lemmas.List.{length-take, length-drop}
use Rattle.damon_types.specs.declared.row.Row.{Row}
use Rattle.region_list.specs.Rows.{cut_after, row_at, with_values}
use Rattle.scheme_engine.specs.Applying.{cut_rows}

-- a row is cut, and its first part gets age 0
pub cut_and_renewed : (i at : ℕ) (rows : List Row) → i < length rows → with_values (cut_after rows i at) i (row_at rows i).count (row_at rows i).last 0 ≡ cut_rows i at rows
cut_and_renewed i at [] within = absurd (omega arith)
cut_and_renewed zero at (r ∷ rows) within = refl
cut_and_renewed (suc i) at (r ∷ rows) within =
    let next : suc i + 1 ≡ suc (i + 1) = omega arith in
    rw next (ap (λ rs. r ∷ rs) (cut_and_renewed i at rows (omega arith)))

-- there is one row more
pub length-cut_after : (i at : ℕ) (rows : List Row) → i < length rows → length (cut_after rows i at) ≡ length rows + 1
length-cut_after i at rows within =
    omega (arith, length-append {A = Row}, length-take {A = Row}, length-drop {A = Row})

pub length-cut_rows : (i at : ℕ) (rows : List Row) → i < length rows → length (cut_rows i at rows) ≡ length rows + 1
length-cut_rows i at rows within =
    omega (arith, length-append {A = Row}, length-take {A = Row}, length-drop {A = Row})
