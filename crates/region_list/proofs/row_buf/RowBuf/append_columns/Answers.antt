use Rattle.std.proofs.Common.{ℕ, ◌-◌, ◌≤◌, List, ◌++◌, length, take, drop, ap, ◌∙◌, arith, rules}
use Rattle.std.proofs.lemmas.List.{length-append, length-take}
use Rattle.region_list.specs.Rows.{RowList}
use Rattle.region_list.proofs.ColumnLemmas.{columns_appended, columns_are, length_zipped, stretch, zipped_is}
use Rattle.region_list.proofs.row_buf.RowBuf.append_columns.Goals as goal

pub invariant_of-self : goal.invariant_of-self
invariant_of-self c =
    let own = c.self.inside in
    let rows = c.args.rows.now.rows in
    let from = c.args.from in
    let n = c.args.to - from in
    let target = c.append_reserved.ensures.items ∙ ap (λ xs. own.targets.items ++ xs) (stretch (λ r. r.target) from n c.targets.result.now rows c.targets.ensures) in
    let start = c.append_reserved-2.ensures.items ∙ ap (λ xs. own.starts.items ++ xs) (stretch (λ r. r.start) from n c.starts.result.now rows c.starts.ensures) in
    let size = c.append_reserved-3.ensures.items ∙ ap (λ xs. own.pages.items ++ xs) (stretch (λ r. r.pages) from n c.pages.result.now rows c.pages.ensures) in
    let count = c.append_reserved-4.ensures.items ∙ ap (λ xs. own.counts.items ++ xs) (stretch (λ r. r.count) from n c.counts.result.now rows c.counts.ensures) in
    let last = c.append_reserved-5.ensures.items ∙ ap (λ xs. own.lasts.items ++ xs) (stretch (λ r. r.last) from n c.lasts.result.now rows c.lasts.ensures) in
    let age = c.append_reserved-6.ensures.items ∙ ap (λ xs. own.ages.items ++ xs) (stretch (λ r. r.age) from n c.ages.result.now rows c.ages.ensures) in
    let new = columns_appended _ (take n (drop from rows)) _ _ _ _ _ _ _ _ _ _ _ _ c.self.invariant.0 target start size count last age in
    let many = length_zipped own.targets.items own.starts.items own.pages.items own.counts.items own.lasts.items own.ages.items in
    let slice = take n (drop from c.targets.result.now) in
    let few : length c.append_reserved.new.items.items ≤ own.cap = omega (arith, ap (λ (xs : List ℕ). length xs) c.append_reserved.ensures.items, length-append own.targets.items slice, length-take n (drop from c.targets.result.now), many, c.requires.room, ap (λ (v : RowList). length v.rows) c.self.view_is, ap (λ (v : RowList). v.cap) c.self.view_is) in
    (columns_are _ _ _ _ _ _ _ new, few, search rules, search rules, search rules, search rules, search rules, search rules, search rules)

pub returns : goal.returns
returns c =
    let own = c.self.inside in
    let rows = c.args.rows.now.rows in
    let from = c.args.from in
    let n = c.args.to - from in
    let target = c.append_reserved.ensures.items ∙ ap (λ xs. own.targets.items ++ xs) (stretch (λ r. r.target) from n c.targets.result.now rows c.targets.ensures) in
    let start = c.append_reserved-2.ensures.items ∙ ap (λ xs. own.starts.items ++ xs) (stretch (λ r. r.start) from n c.starts.result.now rows c.starts.ensures) in
    let size = c.append_reserved-3.ensures.items ∙ ap (λ xs. own.pages.items ++ xs) (stretch (λ r. r.pages) from n c.pages.result.now rows c.pages.ensures) in
    let count = c.append_reserved-4.ensures.items ∙ ap (λ xs. own.counts.items ++ xs) (stretch (λ r. r.count) from n c.counts.result.now rows c.counts.ensures) in
    let last = c.append_reserved-5.ensures.items ∙ ap (λ xs. own.lasts.items ++ xs) (stretch (λ r. r.last) from n c.lasts.result.now rows c.lasts.ensures) in
    let age = c.append_reserved-6.ensures.items ∙ ap (λ xs. own.ages.items ++ xs) (stretch (λ r. r.age) from n c.ages.result.now rows c.ages.ensures) in
    let new = columns_appended _ (take n (drop from rows)) _ _ _ _ _ _ _ _ _ _ _ _ c.self.invariant.0 target start size count last age in
    ap (λ rs. record { rows = rs; cap = own.cap }) (zipped_is _ _ _ _ _ _ _ new) ∙ ap (λ (v : RowList). record v { rows = v.rows ++ take n (drop from rows) }) c.self.view_is
