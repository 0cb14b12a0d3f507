-- Joining the row with an index and the next one.
use Rattle.std.proofs.Common.{◌≡◌, ℕ, zero, suc, ◌+◌, ◌^◌, ◌≤◌, ◌<◌, true, List, [], ◌∷◌, ◌++◌, length, take, drop, refl, sym, ap, ◌∙◌, subst, add-one, arith}
use Rattle.std.specs.Prelude.{slice_set}
use Rattle.std.specs.List.{AllByRecursion}
use Rattle.damon_types.specs.declared.range.Range.{Range}
use Rattle.damon_types.specs.declared.row.Row.{Row}
use Rattle.damon_types.specs.Ranges.{InOrder}
use Rattle.damon_types.specs.Span.{spans}
use Rattle.region_list.specs.Rows.{row_at}
use Rattle.region_list.specs.Tiling.{Tiling}
use Rattle.region_list.specs.Join.{join}
use Rattle.region_list.specs.Shrink.{in_one_range, difference, joined_at}
use Rattle.region_list.proofs.JoinLemmas.{sizes_joined}
use Rattle.region_list.proofs.PairLemmas.{IsPair}
use Rattle.region_list.proofs.TilingLemmas.{tiling_size, tiling_weaker, row_end}
use Rattle.region_list.proofs.WalkLemmas.{tiling_joined}
use Rattle.region_list.proofs.ShrinkLemmas.{tiling_of_sizes, joined_get}

pair_here : (gs : List Range) (i : ℕ) (rows : List Row) → i + 1 < length rows → in_one_range gs (row_at rows i) (row_at rows (suc i)) ≡ true → IsPair gs rows i (difference (row_at rows i) (row_at rows (suc i)))
pair_here gs i [] within one = absurd (omega arith)
pair_here gs i (a ∷ []) within one = absurd (omega arith)
pair_here gs zero (a ∷ b ∷ rows) within one = (one, refl)
pair_here gs (suc i) (a ∷ b ∷ rows) within one = pair_here gs i (b ∷ rows) (omega arith) one

-- the rows around the joined one stay
pub joined_split : (i : ℕ) (rows : List Row) → i + 1 < length rows → joined_at i rows ≡ take i rows ++ join (row_at rows i) (row_at rows (suc i)) ∷ drop (suc (suc i)) rows
joined_split i [] within = absurd (omega arith)
joined_split i (a ∷ []) within = absurd (omega arith)
joined_split zero (a ∷ b ∷ rows) within = refl
joined_split (suc i) (a ∷ b ∷ rows) within = ap (λ rs. a ∷ rs) (joined_split i (b ∷ rows) (omega arith))

-- the joined rows tile as before
pub tiles_joined : (unit i : ℕ) (gs : List Range) (rows : List Row) → 1 ≤ unit → InOrder gs → Tiling unit gs (spans rows) → i + 1 < length rows → in_one_range gs (row_at rows i) (row_at rows (suc i)) ≡ true → Tiling unit gs (spans (joined_at i rows))
tiles_joined unit i gs rows some ordered tiling within one =
    let sizes : AllByRecursion (λ s. unit ≤ s.pages) (spans (joined_at i rows)) = sizes_joined unit i rows (tiling_size unit gs (spans rows) tiling) in
    tiling_of_sizes unit gs (spans (joined_at i rows)) (tiling_joined gs rows i _ ordered (tiling_weaker 1 unit gs (spans rows) some tiling) (pair_here gs i rows within one)) sizes

-- the pages of the joined row fit
pub pages_joined : (unit i : ℕ) (gs : List Range) (rows : List Row) → 1 ≤ unit → InOrder gs → Tiling unit gs (spans rows) → i + 1 < length rows → in_one_range gs (row_at rows i) (row_at rows (suc i)) ≡ true → (row_at rows i).pages + (row_at rows (suc i)).pages < 2 ^ 32
pages_joined unit i gs rows some ordered tiling within one =
    omega (arith, row_end unit gs (joined_at i rows) i (join (row_at rows i) (row_at rows (suc i))) ordered (tiles_joined unit i gs rows some ordered tiling within one) (joined_get i rows within))

two : (i : ℕ) → i + 2 ≡ suc (suc i)
two i = omega arith

-- the same with the joined row at hand
pub joined_is : (i : ℕ) (rows : List Row) (a b j : Row) → i + 1 < length rows → row_at rows i ≡ a → row_at rows (i + 1) ≡ b → j ≡ join a b → joined_at i rows ≡ take i rows ++ j ∷ drop (i + 2) rows
joined_is i rows a b j within first second is =
    joined_split i rows within
    ∙ ap (λ n. take i rows ++ join (row_at rows i) (row_at rows n) ∷ drop (suc (suc i)) rows) (sym (add-one i))
    ∙ ap (λ x. take i rows ++ join x (row_at rows (i + 1)) ∷ drop (suc (suc i)) rows) first
    ∙ ap (λ x. take i rows ++ join a x ∷ drop (suc (suc i)) rows) second
    ∙ ap (λ x. take i rows ++ x ∷ drop (suc (suc i)) rows) (sym is)
    ∙ ap (λ n. take i rows ++ j ∷ drop n rows) (sym (two i))

set_here : (i : ℕ) (rows : List Row) (x : Row) → i + 1 < length rows → slice_set (take i rows ++ drop (suc i) rows) i x ≡ take i rows ++ x ∷ drop (suc (suc i)) rows
set_here i [] x within = absurd (omega arith)
set_here zero (a ∷ []) x within = absurd (omega arith)
set_here zero (a ∷ b ∷ rows) x within = refl
set_here (suc i) (a ∷ rows) x within = ap (λ rs. a ∷ rs) (set_here i rows x (omega arith))

-- a row in the place of two
pub set_removed : (i : ℕ) (rows : List Row) (x : Row) → i + 1 < length rows → slice_set (take i rows ++ drop (i + 1) rows) i x ≡ take i rows ++ x ∷ drop (i + 2) rows
set_removed i rows x within =
    ap (λ n. slice_set (take i rows ++ drop n rows) i x) (add-one i) ∙ set_here i rows x within ∙ ap (λ n. take i rows ++ x ∷ drop n rows) (sym (two i))

fewer_here : (i : ℕ) (rows : List Row) (x : Row) → i + 1 < length rows → length (take i rows ++ x ∷ drop (suc (suc i)) rows) ≤ length rows
fewer_here i [] x within = absurd (omega arith)
fewer_here zero (a ∷ []) x within = absurd (omega arith)
fewer_here zero (a ∷ b ∷ rows) x within = omega arith
fewer_here (suc i) (a ∷ rows) x within = omega (arith, fewer_here i rows x (omega arith))

pub fewer : (i : ℕ) (rows : List Row) (x : Row) → i + 1 < length rows → length (take i rows ++ x ∷ drop (i + 2) rows) ≤ length rows
fewer i rows x within = subst (λ n. length (take i rows ++ x ∷ drop n rows) ≤ length rows) (sym (two i)) (fewer_here i rows x within)
