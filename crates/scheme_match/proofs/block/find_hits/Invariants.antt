use Rattle.std.proofs.Common.{◌≡◌, ◌≤◌, ◌<◌, ℕ, Bool, List, length, map, filter, take, slice_index, slice_index_or}
use Rattle.damon_types.specs.declared.row.Row.{Row as row}
use Rattle.scheme_match.proofs.block.find_hits.Given as goal

abbrev pub invariant-loop-place : goal.invariant-loop-place
invariant-loop-place l = record {
  few : l.number ≤ l.place;
  long : length l.found ≡ 64;
  within : (k : ℕ) → k < l.number → slice_index l.found k < l.place;
  rows : (p : row → Bool) (rows : List row) (d : row) → take l.count l.hits ≡ map p rows → map (λ i. slice_index_or rows i d) (take l.number l.found) ≡ filter p (take l.place rows);
}
