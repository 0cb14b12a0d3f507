use Rattle.std.proofs.Common.{◌≡◌, length, subst, arith}
use Rattle.std.specs.Prelude.{OnOk}
use Rattle.snapshot_print.specs.Json.{row_json}
use Rattle.snapshot_print.proofs.JsonItems.{list_closed}
use Rattle.snapshot_print.proofs.json_rows.print_row_list.Goals as goal

pub returns-clause-ok : goal.returns-clause-ok
returns-clause-ok c =
    let begins : c.len-start.result ≡ length c.args.out.now.items = omega arith in
    let closed = list_closed (row_json c.args.space.now) c.args.rows.now.rows c.len-start.result c.args.out.now.items c.print_rows_from.new.out.items begins c.in_ok-print_rows_from.ensures.ok in
    subst (λ text. OnOk c.close_list.result (c.close_list.new.out.items ≡ text)) closed c.close_list.ensures.ok
