use Rattle.std.proofs.Common.{◌≡◌, ◌≤◌, true, false, length, ltb, ltb-true, ltb-false, subst, ap, rules, arith}
use Rattle.std.proofs.lemmas.List.{length-map}
use Rattle.std.proofs.lemmas.List.Sorted.{IsPartitionPoint-from_clause}
use Rattle.std.specs.List.Sorted.{IsPartitionPoint}
use Rattle.damon_types.specs.declared.row.Row.{Row}
use Rattle.heat_report.proofs.Starts.{ascend_after, begin_before, first_pages, starts_parted}
use Rattle.heat_report.proofs.heat.rows_before.Goals as goal

pub returns : goal.returns
returns c =
    let rows = c.args.rows.now.rows in
    let page = c.args.page in
    let len = length-map rows (λ (r : Row). r.start) in
    let parted = IsPartitionPoint-from_clause (λ n. ltb n page) _ _ c.partition_point.ensures.partitioned (rw c.starts.ensures (starts_parted rows page c.requires)) (λ a r q k. search rules) in
    let point : IsPartitionPoint (λ n. ltb n page ≡ true) (λ n. ltb n page ≡ false) (first_pages rows) c.partition_point.result =
    subst (λ xs. IsPartitionPoint (λ n. ltb n page ≡ true) (λ n. ltb n page ≡ false) xs c.partition_point.result) c.starts.ensures parted in
    let within : c.partition_point.result ≤ length rows = omega (arith, c.partition_point.ensures.bound, ap length c.starts.ensures, len) in
    record {
      within = within;
      before = begin_before page rows c.partition_point.result within (λ i here. ltb-true _ _ (point.0 i 0 (omega (arith, here, within, len)) here));
      after = ascend_after page 0 rows c.partition_point.result c.requires (λ inside. ltb-false _ _ (point.1 c.partition_point.result 0 (omega arith) (omega (arith, inside, len))));
    }
