use Rattle.std.proofs.Common.{◌≡◌, ◌+◌, ℕ, suc, ◌∷◌, drop, sym, ap, ◌∙◌, arith}
use Rattle.std.proofs.lemmas.Option.{get_or_from_slice_get}
use Rattle.damon_types.specs.declared.row.Row.{Row}
use Rattle.region_list.proofs.ColumnLemmas.{drop_row}
use Rattle.region_list.proofs.row_buf.RowBuf.next.Goals as goal

pub returns-clause-rest : goal.returns-clause-rest
returns-clause-rest c = drop_row c.args.self.now.rows c.args.index c.get.result c.requires c.get.ensures
