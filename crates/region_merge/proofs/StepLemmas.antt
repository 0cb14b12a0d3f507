-- One step of merging: the next row of a slice is joined to the row merged so far, or begins a group.
use Rattle.std.proofs.Common.{◌≡◌, ℕ, ◌+◌, ◌<◌, Bool, true, false, List, ◌∷◌, length, drop, refl, ap, subst, Some, add-one, drop-cons, arith}
use Rattle.std.proofs.lemmas.Bool.{eqb-true, eqb-false}
use Rattle.std.proofs.lemmas.Bool.Decides.{nat_tests}
use Rattle.std.specs.Prelude.{◌&&◌, ◌==◌, not, slice_get}
use Rattle.std.specs.Option.{option_map}
use Rattle.damon_types.specs.declared.range.Range.{Range}
use Rattle.damon_types.specs.declared.row.Row.{Row}
use Rattle.damon_types.specs.Ranges.{InOrder, end_of}
use Rattle.region_list.specs.Join.{join}
use Rattle.region_list.specs.Rows.{no_row, row_at}
use Rattle.region_list.specs.Shrink.{in_one_range}
use Rattle.region_list.specs.Walk.{BeginsIn}
use Rattle.region_list.proofs.Lemmas.{begins_next, begins_same}
use Rattle.region_merge.specs.Merged.{row_end, is_within, may_join, merged_from}

drop_next : (rows : List Row) (i : ℕ) → i < length rows → drop i rows ≡ row_at rows i ∷ drop (i + 1) rows
drop_next rows i within = rw add-one (drop-cons rows i no_row within)

-- one range holds both rows exactly if the first one ends before its range
in_one_range_is : (gs : List Range) (a b : Row) (rows : List Row) (k end : ℕ) → InOrder gs → BeginsIn gs (a ∷ b ∷ rows) k end → in_one_range gs a b ≡ not (row_end a == end)
in_one_range_is gs a b rows k end order here = by (row_end a == end) refl
  where
    by : (v : Bool) → (row_end a == end) ≡ v → in_one_range gs a b ≡ not v
    by true over = (begins_next gs a b rows k end order here (eqb-true _ _ over)).0
    by false on = (begins_same gs a b rows k end order here (eqb-false _ _ on)).0

-- so a test of the ends shows whether the rows are joined
pub may_join_is : (gs : List Range) (threshold limit : ℕ) (a b : Row) (rows : List Row) (k end : ℕ) → InOrder gs → BeginsIn gs (a ∷ b ∷ rows) k end → may_join gs threshold limit a b ≡ (not (row_end a == end) && is_within threshold limit a b)
may_join_is gs threshold limit a b rows k end order here = ap (λ one. one && is_within threshold limit a b) (in_one_range_is gs a b rows k end order here)

-- where the next row begins a group, in this range or in the next one
pub begins_group : (gs : List Range) (a b : Row) (rows : List Row) (k end k' end' : ℕ) → InOrder gs → BeginsIn gs (a ∷ b ∷ rows) k end → ((row_end a ≡ end → ⊥) → (k' ≡ k) × (end' ≡ end)) → (row_end a ≡ end → (k' ≡ k + 1) × (option_map end_of (slice_get gs (k + 1)) ≡ Some end')) → BeginsIn gs (b ∷ rows) k' end'
begins_group gs a b rows k end k' end' order here same next = by (row_end a == end) refl
  where
    by : (v : Bool) → (row_end a == end) ≡ v → BeginsIn gs (b ∷ rows) k' end'
    by true is =
        let over = eqb-true _ _ is in
        rw ((next over).0) ((begins_next gs a b rows k end order here over).2 end' (next over).1)
    by false is =
        let on = eqb-false _ _ is in
        rw ((same on).0, (same on).1) ((begins_same gs a b rows k end order here on).1)

-- where the ends differ, as a row that is joined shows
pub ends_differ : (u v : ℕ) (p : Bool) → (not (u == v) && p) ≡ true → u ≡ v → ⊥
ends_differ u v p is same = absurd (grind (arith, nat_tests))

-- the same steps, where the next row is known by what is left
pub begins_row : (gs : List Range) (a b : Row) (left rows : List Row) (k end : ℕ) → left ≡ b ∷ rows → BeginsIn gs (a ∷ left) k end → BeginsIn gs (a ∷ b ∷ rows) k end
begins_row gs a b left rows k end is here = subst (λ rs. BeginsIn gs (a ∷ rs) k end) is here

pub joined_row : (gs : List Range) (threshold limit : ℕ) (a b : Row) (left rows : List Row) → left ≡ b ∷ rows → may_join gs threshold limit a b ≡ true → merged_from gs threshold limit a left ≡ merged_from gs threshold limit (join a b) rows
joined_row gs threshold limit a b left rows is may = rw (is, may) refl

pub next_row : (gs : List Range) (threshold limit : ℕ) (a b : Row) (left rows : List Row) → left ≡ b ∷ rows → may_join gs threshold limit a b ≡ false → merged_from gs threshold limit a left ≡ a ∷ merged_from gs threshold limit b rows
next_row gs threshold limit a b left rows is may = rw (is, may) refl

-- where a row and the next one are known by what is left
pub begins_two : (gs : List Range) (a b : Row) (left after rows : List Row) (k end : ℕ) → left ≡ a ∷ after → after ≡ b ∷ rows → BeginsIn gs left k end → BeginsIn gs (a ∷ b ∷ rows) k end
begins_two gs a b left after rows k end first second here = subst (λ rs. BeginsIn gs (a ∷ rs) k end) second (subst (λ rs. BeginsIn gs rs k end) first here)
