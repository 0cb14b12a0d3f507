use Rattle.std.proofs.Common.{◌≡◌, ℕ, List, take, refl, sym, ap, ◌∙◌, arith, rules}
use Rattle.damon_types.specs.declared.row.Row.{Row}
use Rattle.region_list.specs.Rows.{RowList}
use Rattle.region_list.proofs.ColumnLemmas.{columns_taken, columns_are, zipped_is}
use Rattle.region_list.proofs.row_buf.RowBuf.truncate.Goals as goal

pub invariant_of-self : goal.invariant_of-self
invariant_of-self c =
    let new = columns_taken c.args.count _ _ _ _ _ _ _ _ _ _ _ _ _ c.self.invariant.0 c.truncate.ensures.items c.truncate-2.ensures.items c.truncate-3.ensures.items c.truncate-4.ensures.items c.truncate-5.ensures.items c.truncate-6.ensures.items in
    (columns_are _ _ _ _ _ _ _ new, omega (arith, c.truncate.ensures.len, c.self.invariant), search rules, search rules, search rules, search rules, search rules, search rules, search rules)

pub returns : goal.returns
returns c =
    let new = columns_taken c.args.count _ _ _ _ _ _ _ _ _ _ _ _ _ c.self.invariant.0 c.truncate.ensures.items c.truncate-2.ensures.items c.truncate-3.ensures.items c.truncate-4.ensures.items c.truncate-5.ensures.items c.truncate-6.ensures.items in
    let kept : RowList → RowList = λ b. record b { rows = take c.args.count b.rows } in
    ap (λ rs. record { rows = rs; cap = c.self.inside.cap }) (zipped_is _ _ _ _ _ _ _ new) ∙ ap kept c.self.view_is
