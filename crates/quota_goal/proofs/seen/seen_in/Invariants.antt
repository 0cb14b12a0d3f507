use Rattle.std.proofs.Common.{◌≡◌, ◌+◌, ◌*◌, ◌-◌, ◌^◌, ◌≤◌, drop}
use Rattle.damon_types.specs.RowPages.{working_set}
use Rattle.quota_goal.specs.Seen.{cold_pages}
use Rattle.quota_goal.proofs.seen.seen_in.Given as goal

abbrev pub invariant-loop-index : goal.invariant-loop-index
invariant-loop-index l = record {
  fits : l.hot + l.cold ≤ l.index * (2 ^ 32 - 1);
  hot : l.hot + working_set (drop l.index l.rows.rows) ≡ working_set l.rows.rows;
  cold : l.cold + cold_pages (drop l.index l.rows.rows) ≡ cold_pages l.rows.rows;
}
