use Rattle.std.proofs.Common.{◌≡◌, ℕ, List, set, refl, sym, ap, ◌∙◌, arith, rules}
use Rattle.region_list.specs.Rows.{RowList, with_values}
use Rattle.region_list.proofs.ColumnLemmas.{columns_valued, columns_are, zipped_is}
use Rattle.region_list.proofs.row_buf.RowBuf.set_values.Goals as goal

pub invariant_of-self : goal.invariant_of-self
invariant_of-self c =
    let new = columns_valued c.args.index c.args.count c.args.last c.args.age _ _ _ _ _ _ _ c.self.invariant.0 in
    (columns_are _ _ _ _ _ _ _ new, search rules, search rules, search rules, search rules, search rules, search rules, search rules, search rules)

pub returns : goal.returns
returns c =
    let new = columns_valued c.args.index c.args.count c.args.last c.args.age _ _ _ _ _ _ _ c.self.invariant.0 in
    let changed : RowList → RowList = λ b. record b { rows = with_values b.rows c.args.index c.args.count c.args.last c.args.age } in
    ap (λ rs. record { rows = rs; cap = c.self.inside.cap }) (zipped_is _ _ _ _ _ _ _ new) ∙ ap changed c.self.view_is
