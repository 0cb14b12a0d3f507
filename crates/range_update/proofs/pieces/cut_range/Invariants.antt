use Rattle.std.proofs.Common.{◌≡◌, ◌≤◌, ◌-◌, ◌++◌, length, drop}
use Rattle.damon_types.specs.Ranges.{end_of}
use Rattle.range_update.specs.Order.{EndBy}
use Rattle.range_update.specs.Updated.{boundaries, range_pieces}
use Rattle.range_update.specs.OpenPiece.{IsOpenPiece, pieces_from}
use Rattle.range_update.proofs.pieces.cut_range.Given as goal

abbrev pub invariant-rows : goal.invariant-rows
invariant-rows l = record {
  within : l.index ≤ length l.rows.rows;
  forward : l.fn.from ≤ l.index;
  past : EndBy (end_of l.fn.range) l.rows.rows l.index;
  piece : IsOpenPiece l.rows.rows l.current;
  target : l.current.target ≡ l.fn.range.target;
  start : l.current.start ≤ l.end;
  cap : l.made.cap ≡ l.fn.made.cap;
  so_far : l.made.rows ++ pieces_from l.rows.rows l.fn.range.target l.unit l.end l.current.start (boundaries (drop l.index l.rows.rows)) ≡ l.fn.made.rows ++ range_pieces l.unit l.rows.rows l.fn.range;
}

abbrev pub decreases-rows : goal.decreases-rows
decreases-rows l = length l.rows.rows - l.index
