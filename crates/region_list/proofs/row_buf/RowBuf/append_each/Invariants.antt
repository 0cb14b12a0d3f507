use Rattle.std.proofs.Common.{◌≡◌, ◌++◌, take, drop}
use Rattle.region_list.proofs.row_buf.RowBuf.append_each.Given as goal

abbrev pub invariant-loop-place : goal.invariant-loop-place
invariant-loop-place l = l.self ≡ record l.fn.self { rows = l.fn.self.rows ++ take l.place (drop l.from l.rows.rows) }
