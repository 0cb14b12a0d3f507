use Rattle.std.proofs.Common.{◌≡◌, ℕ, List, set, refl, sym, ap, ◌∙◌, arith, rules}
use Rattle.damon_types.specs.declared.row.Row.{Row}
use Rattle.region_list.specs.Rows.{RowList}
use Rattle.region_list.proofs.ColumnLemmas.{columns_set, columns_are, zipped_is}
use Rattle.region_list.proofs.row_buf.RowBuf.set.Goals as goal

pub invariant_of-self : goal.invariant_of-self
invariant_of-self c =
    let new = columns_set c.args.index c.args.row _ _ _ _ _ _ _ _ _ _ _ _ _ c.self.invariant.0 refl refl refl refl refl refl in
    (columns_are _ _ _ _ _ _ _ new, search rules, search rules, search rules, search rules, search rules, search rules, search rules, search rules)

pub returns-clause-set : goal.returns-clause-set
returns-clause-set c =
    let new = columns_set c.args.index c.args.row _ _ _ _ _ _ _ _ _ _ _ _ _ c.self.invariant.0 refl refl refl refl refl refl in
    let changed : RowList → RowList = λ b. record b { rows = set b.rows c.args.index c.args.row } in
    ap (λ rs. record { rows = rs; cap = c.self.inside.cap }) (zipped_is _ _ _ _ _ _ _ new) ∙ ap changed c.self.view_is
