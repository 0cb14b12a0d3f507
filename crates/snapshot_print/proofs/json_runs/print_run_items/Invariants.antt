use Rattle.std.proofs.Common.{◌≡◌, ◌≤◌, ◌+◌, ◌++◌, length}
use Rattle.std.specs.Prelude.{flat_map}
use Rattle.std.specs.List.{AllByRecursion}
use Rattle.damon_types.specs.Space.{pages_of}
use Rattle.snapshot_print.specs.Json.{applied_json}
use Rattle.line_text.specs.Appended.{KeepsFront}
use Rattle.snapshot_print.specs.Pieces.{piece}
use Rattle.snapshot_print.proofs.json_runs.print_run_items.Given as goal

abbrev pub invariant-slots : goal.invariant-slots
invariant-slots l = record {
  runs : AllByRecursion (λ r. (1 ≤ r.pages) × (r.start + r.pages ≤ pages_of l.space)) l.left;
  text : l.out.items ++ flat_map (λ r. piece (applied_json l.space l.engine.slots r)) l.left ≡ l.fn.out.items ++ flat_map (λ r. piece (applied_json l.space l.engine.slots r)) l.runs;
  kept : KeepsFront l.fn.out.items l.out.items;
}

abbrev pub decreases-slots : goal.decreases-slots
decreases-slots l = length l.left
