-- The pages of a space that are out.
use Rattle.std.specs.Prelude.{ℕ, Bool, false, List, count_by, slice_index_or}
use Rattle.reclaim_module.specs.declared.reclaim.Counts.{Counts}

-- A model of resident pages: whether each page of the space is out, and what was counted.
pub record ReclaimView : Type 0 where
  pub out : List Bool
  pub counts : Counts

-- whether a page is out
abbrev pub is_out_in : List Bool → ℕ → Bool
is_out_in out page = slice_index_or out page false

-- how many pages are out
abbrev pub out_count : List Bool → ℕ
out_count out = count_by (λ is_out. is_out) out
