use Rattle.std.proofs.Common.{◌≡◌, ℕ, ◌+◌, List, ◌++◌, length, take, drop, refl, sym, ap, ◌∙◌, arith, rules}
use Rattle.region_list.specs.Rows.{RowList}
use Rattle.region_list.proofs.ColumnLemmas.{columns_removed, columns_are, zipped_is}
use Rattle.region_list.proofs.row_buf.RowBuf.remove.Goals as goal

pub invariant_of-self : goal.invariant_of-self
invariant_of-self c =
    let new = columns_removed c.args.index _ _ _ _ _ _ _ _ _ _ _ _ _ c.self.invariant.0 c.remove.ensures.by_index.2 c.remove-2.ensures.by_index.2 c.remove-3.ensures.by_index.2 c.remove-4.ensures.by_index.2 c.remove-5.ensures.by_index.2 c.remove-6.ensures.by_index.2 in
    (columns_are _ _ _ _ _ _ _ new, omega (arith, c.remove.ensures, c.self.invariant), search rules, search rules, search rules, search rules, search rules, search rules, search rules)

pub returns : goal.returns
returns c =
    let new = columns_removed c.args.index _ _ _ _ _ _ _ _ _ _ _ _ _ c.self.invariant.0 c.remove.ensures.by_index.2 c.remove-2.ensures.by_index.2 c.remove-3.ensures.by_index.2 c.remove-4.ensures.by_index.2 c.remove-5.ensures.by_index.2 c.remove-6.ensures.by_index.2 in
    let kept : RowList → RowList = λ b. record b { rows = take c.args.index b.rows ++ drop (c.args.index + 1) b.rows } in
    ap (λ rs. record { rows = rs; cap = c.self.inside.cap }) (zipped_is _ _ _ _ _ _ _ new) ∙ ap kept c.self.view_is
