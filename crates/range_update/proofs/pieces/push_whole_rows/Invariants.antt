use Rattle.std.proofs.Common.{◌≡◌, ◌≤◌, ◌<◌, ◌-◌, ◌++◌, length, take, drop}
use Rattle.region_list.specs.Rows.{row_at}
use Rattle.range_update.specs.Order.{EndBy, row_end}
use Rattle.range_update.specs.Updated.{boundaries}
use Rattle.range_update.specs.OpenPiece.{pieces_from}
use Rattle.range_update.proofs.pieces.push_whole_rows.Given as goal

abbrev pub invariant-whole : goal.invariant-whole
invariant-whole l = record {
  within : l.next ≤ length l.cut.rows.now.rows;
  forward : l.from ≤ l.next;
  past : EndBy l.cut.end l.cut.rows.now.rows l.next;
  none : l.next ≡ l.from → l.start ≡ l.current.start;
  before : l.from < l.next → EndBy l.start l.cut.rows.now.rows l.next;
  after : l.from < l.next → l.next < length l.cut.rows.now.rows → l.start < row_end (row_at l.cut.rows.now.rows l.next);
  low : l.current.start ≤ l.cut.end → l.start ≤ l.cut.end;
  so_far : take (l.next - l.from) (drop l.from l.cut.rows.now.rows) ++ pieces_from l.cut.rows.now.rows l.current.target l.cut.unit l.cut.end l.start (boundaries (drop l.next l.cut.rows.now.rows)) ≡ pieces_from l.cut.rows.now.rows l.current.target l.cut.unit l.cut.end l.current.start (boundaries (drop l.from l.cut.rows.now.rows));
}

abbrev pub decreases-whole : goal.decreases-whole
decreases-whole l = length l.cut.rows.now.rows - l.next
