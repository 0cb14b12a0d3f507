use Rattle.std.proofs.Common.{◌≡◌, ◌+◌, ◌*◌, ◌≤◌, ◌++◌, None, length, take}
use Rattle.std.specs.Prelude.{fold}
use Rattle.damon_types.specs.Span.{spans}
use Rattle.scheme_filter.specs.Passes.{passes}
use Rattle.scheme_filter.specs.declared.runs.TheConstants.{MAX_RUNS}
use Rattle.scheme_engine.specs.Taken.{applied_runs}
use Rattle.scheme_engine.specs.Applying.{next_part, rows_renewed}
use Rattle.scheme_engine.proofs.apply.apply.Given as goal

abbrev pub invariant-loop-candidate : goal.invariant-loop-candidate
invariant-loop-candidate l = record {
  runs : l.applied ≡ record l.fn.applied {
    runs = l.fn.applied.runs ++ applied_runs l.served.number (passes l.served.scheme.now.filters l.served.space.now l.fn.regions.ranges) (spans l.fn.regions.rows) (take l.candidate-index l.candidates.list);
  };
  few : length l.applied.runs ≤ length l.fn.applied.runs + MAX_RUNS * l.candidate-index;
  rows : l.regions ≡ record l.fn.regions { rows = fold (rows_renewed l.served.scheme.now.action) l.fn.regions.rows (take l.candidate-index l.candidates.list) };
  places : spans l.regions.rows ≡ spans l.fn.regions.rows;
  part : l.part ≡ fold (next_part l.served.scheme.now.action (passes l.served.scheme.now.filters l.served.space.now l.fn.regions.ranges) (spans l.fn.regions.rows)) None (take l.candidate-index l.candidates.list);
}
