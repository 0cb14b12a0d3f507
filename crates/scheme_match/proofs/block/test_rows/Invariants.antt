use Rattle.std.proofs.Common.{◌≡◌, List, length, map, take}
use Rattle.damon_types.specs.declared.row.Row.{Row as row}
use Rattle.scheme_match.specs.Match.{AreTested, is_match}
use Rattle.scheme_match.proofs.block.test_rows.Given as goal

abbrev pub invariant-loop-place : goal.invariant-loop-place
invariant-loop-place l = record {
  long : length l.hits ≡ 64;
  tested : (rows : List row) → AreTested rows l.pages l.counts l.ages → take l.place l.hits ≡ map (is_match l.pattern) (take l.place rows);
}
