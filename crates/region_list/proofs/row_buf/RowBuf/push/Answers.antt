use Rattle.std.proofs.Common.{◌≡◌, ℕ, List, [], ◌∷◌, ◌++◌, length, refl, sym, ap, ◌∙◌, arith, rules}
use Rattle.damon_types.specs.declared.row.Row.{Row}
use Rattle.region_list.specs.Rows.{RowList}
use Rattle.region_list.specs.Columns.{AreColumns}
use Rattle.region_list.proofs.ColumnLemmas.{columns_pushed, columns_are, length_zipped, zipped_is}
use Rattle.region_list.proofs.row_buf.RowBuf.push.Goals as goal

pub invariant_of-self : goal.invariant_of-self
invariant_of-self c =
    let new = columns_pushed _ c.args.row _ _ _ _ _ _ _ _ _ _ _ _ c.self.invariant.0 c.push_reserved.ensures.items c.push_reserved-2.ensures.items c.push_reserved-3.ensures.items c.push_reserved-4.ensures.items c.push_reserved-5.ensures.items c.push_reserved-6.ensures.items in
    (columns_are _ _ _ _ _ _ _ new, omega (arith, c.requires, c.push_reserved.ensures.len, ap (λ (b : RowList). length b.rows) c.self.view_is, ap (λ (b : RowList). b.cap) c.self.view_is, length_zipped c.self.inside.targets.items c.self.inside.starts.items c.self.inside.pages.items c.self.inside.counts.items c.self.inside.lasts.items c.self.inside.ages.items), search rules, search rules, search rules, search rules, search rules, search rules, search rules)

pub returns : goal.returns
returns c =
    let new = columns_pushed _ c.args.row _ _ _ _ _ _ _ _ _ _ _ _ c.self.invariant.0 c.push_reserved.ensures.items c.push_reserved-2.ensures.items c.push_reserved-3.ensures.items c.push_reserved-4.ensures.items c.push_reserved-5.ensures.items c.push_reserved-6.ensures.items in
    let pushed : RowList → RowList = λ b. record b { rows = b.rows ++ c.args.row ∷ [] } in
    ap (λ rs. record { rows = rs; cap = c.self.inside.cap }) (zipped_is _ _ _ _ _ _ _ new) ∙ ap pushed c.self.view_is
