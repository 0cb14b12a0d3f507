use Rattle.std.proofs.Common.{◌≡◌, ℕ, List, length, map, refl, sym, ap, subst, ◌∙◌, arith, rules}
use Rattle.std.specs.Vec.{with_items}
use Rattle.std.proofs.lemmas.List.{with_items_is}
use Rattle.damon_types.specs.declared.row.Row.{Row}
use Rattle.damon_types.specs.Span.{spans}
use Rattle.region_list.specs.Columns.{zipped, AreColumns, AreValues}
use Rattle.region_list.specs.Rows.{RowList}
use Rattle.region_list.proofs.ColumnLemmas.{columns_revalued, columns_are, zipped_is}
use Rattle.region_list.proofs.row_buf.RowBuf.revalue.Goals as goal

pub invariant_of-self : goal.invariant_of-self
invariant_of-self g c =
    let b = c.self.inside in
    let rows = zipped b.targets.items b.starts.items b.pages.items b.counts.items b.lasts.items b.ages.items in
    let view : rows ≡ c.args.self.now.rows = ap (λ (v : RowList). v.rows) c.self.view_is in
    let kept = c.self.invariant.0 in
    let others = g.P.ValuePass.values_of c.args.pass.now rows in
    let same : spans others ≡ spans rows = subst (λ (rs : List Row). spans (g.P.ValuePass.values_of c.args.pass.now rs) ≡ spans rs) (sym view) c.requires.spans in
    let old : AreValues rows c.deref_mut.result.now c.deref_mut-2.result.now c.deref_mut-3.result.now = record {
      count = c.deref_mut.ensures.value ∙ kept.count;
      last = c.deref_mut-2.ensures.value ∙ kept.last;
      age = c.deref_mut-3.ensures.value ∙ kept.age;
    } in
    let new = c.run.ensures rows old in
    let values : AreValues others (with_items b.counts c.run.new.counts).items (with_items b.lasts c.run.new.lasts).items (with_items b.ages c.run.new.ages).items = record {
      count = with_items_is b.counts c.run.new.counts (omega (arith, c.run.auto.counts, c.deref_mut.ensures.len)) ∙ new.count;
      last = with_items_is b.lasts c.run.new.lasts (omega (arith, c.run.auto.lasts, c.deref_mut-2.ensures.len)) ∙ new.last;
      age = with_items_is b.ages c.run.new.ages (omega (arith, c.run.auto.ages, c.deref_mut-3.ensures.len)) ∙ new.age;
    } in
    let columns = columns_revalued rows others _ _ _ _ _ _ _ _ _ kept same values in
    (columns_are _ _ _ _ _ _ _ columns, c.self.invariant.1, c.self.invariant.2, c.self.invariant.3, c.self.invariant.4, c.self.invariant.5, c.self.invariant.6, c.self.invariant.7, c.self.invariant.8)

pub returns : goal.returns
returns g c =
    let b = c.self.inside in
    let rows = zipped b.targets.items b.starts.items b.pages.items b.counts.items b.lasts.items b.ages.items in
    let view : rows ≡ c.args.self.now.rows = ap (λ (v : RowList). v.rows) c.self.view_is in
    let kept = c.self.invariant.0 in
    let others = g.P.ValuePass.values_of c.args.pass.now rows in
    let same : spans others ≡ spans rows = subst (λ (rs : List Row). spans (g.P.ValuePass.values_of c.args.pass.now rs) ≡ spans rs) (sym view) c.requires.spans in
    let old : AreValues rows c.deref_mut.result.now c.deref_mut-2.result.now c.deref_mut-3.result.now = record {
      count = c.deref_mut.ensures.value ∙ kept.count;
      last = c.deref_mut-2.ensures.value ∙ kept.last;
      age = c.deref_mut-3.ensures.value ∙ kept.age;
    } in
    let new = c.run.ensures rows old in
    let values : AreValues others (with_items b.counts c.run.new.counts).items (with_items b.lasts c.run.new.lasts).items (with_items b.ages c.run.new.ages).items = record {
      count = with_items_is b.counts c.run.new.counts (omega (arith, c.run.auto.counts, c.deref_mut.ensures.len)) ∙ new.count;
      last = with_items_is b.lasts c.run.new.lasts (omega (arith, c.run.auto.lasts, c.deref_mut-2.ensures.len)) ∙ new.last;
      age = with_items_is b.ages c.run.new.ages (omega (arith, c.run.auto.ages, c.deref_mut-3.ensures.len)) ∙ new.age;
    } in
    let columns = columns_revalued rows others _ _ _ _ _ _ _ _ _ kept same values in
    let changed : RowList → RowList = λ v. record v { rows = g.P.ValuePass.values_of c.args.pass.now v.rows } in
    ap (λ rs. record { rows = rs; cap = b.cap }) (zipped_is _ _ _ _ _ _ _ columns) ∙ ap changed c.self.view_is
