use Rattle.std.proofs.Common.{◌≡◌, ◌≤◌, ◌<◌, true, false, length, map, leb, leb-true, leb-false, sym, subst, ap, rules, arith}
use Rattle.std.proofs.lemmas.List.{length-map}
use Rattle.std.proofs.lemmas.List.Sorted.{IsPartitionPoint-from_clause}
use Rattle.std.specs.List.Sorted.{IsPartitionPoint}
use Rattle.damon_types.specs.declared.row.Row.{Row}
use Rattle.region_list.proofs.FindLemmas.{column_parted, starts_before}
use Rattle.region_list.proofs.find.count_up_to.Goals as goal

pub returns : goal.returns
returns c =
    let rows = c.args.rows.now.rows in
    let page = c.args.page in
    let len = length-map rows (λ (r : Row). r.start) in
    let parted = IsPartitionPoint-from_clause (λ n. leb n page) _ _ c.partition_point.ensures.partitioned (rw c.starts.ensures (column_parted rows page c.requires)) (λ a r q k. search rules) in
    let point : IsPartitionPoint (λ n. leb n page ≡ true) (λ n. leb n page ≡ false) (map (λ (r : Row). r.start) rows) c.partition_point.result =
    subst (λ xs. IsPartitionPoint (λ n. leb n page ≡ true) (λ n. leb n page ≡ false) xs c.partition_point.result) c.starts.ensures parted in
    let within : c.partition_point.result ≤ length rows = omega (arith, c.partition_point.ensures.bound, ap length c.starts.ensures, len) in
    record {
      within = within;
      before = λ i here. rw (sym (starts_before rows i (omega arith))) (leb-true _ _ (point.0 i 0 (omega arith) here));
      after = λ i here inside. rw (sym (starts_before rows i inside)) (leb-false _ _ (point.1 i 0 here (omega (arith, len))));
    }
