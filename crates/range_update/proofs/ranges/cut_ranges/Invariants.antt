use Rattle.std.proofs.Common.{◌≡◌, ◌≤◌, ◌++◌, length, drop}
use Rattle.range_update.specs.Updated.{all_pieces}
use Rattle.range_update.proofs.OrderLemmas.{IsReady}
use Rattle.range_update.proofs.ranges.cut_ranges.Given as goal

abbrev pub invariant-each : goal.invariant-each
invariant-each l = record {
  within : l.from ≤ length l.rows.rows;
  ready : IsReady l.rows.rows l.from (drop l.index l.ranges.list);
  cap : l.made.cap ≡ l.fn.made.cap;
  so_far : l.made.rows ++ all_pieces l.unit l.rows.rows (drop l.index l.ranges.list) ≡ all_pieces l.unit l.rows.rows l.ranges.list;
}
