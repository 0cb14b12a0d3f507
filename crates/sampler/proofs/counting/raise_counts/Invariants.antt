use Rattle.std.proofs.Common.{◌≡◌, List, drop, map, take}
use Rattle.damon_types.specs.declared.row.Row.{Row}
use Rattle.sampler.specs.Counted.{raised}
use Rattle.sampler.proofs.counting.raise_counts.Given as goal

abbrev pub invariant-loop-index : goal.invariant-loop-index
invariant-loop-index l = record {
  left : drop l.index l.counts ≡ drop l.index l.fn.counts;
  so_far : (rows : List Row) → l.fn.counts ≡ map (λ r. r.count) rows → l.counts ≡ map (λ r. r.count) (raised (take l.index l.bits) rows);
}
