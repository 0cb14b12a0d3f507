use Rattle.std.proofs.Common.{◌≡◌, ◌+◌, ◌≤◌, ◌++◌, length, map, drop}
use Rattle.scheme_engine.specs.Taken.{applied_run}
use Rattle.scheme_engine.specs.Applying.{end_of_runs, first_pages}
use Rattle.scheme_engine.proofs.TakenLemmas.{end_or}
use Rattle.scheme_engine.proofs.pages.take_pages.Given as goal

abbrev pub invariant-loop-run : goal.invariant-loop-run
invariant-loop-run l = record {
  runs : l.applied.runs ++ map (applied_run l.slot l.candidate) (first_pages l.wanted (drop l.run-index l.runs))
      ≡ l.fn.applied.runs ++ map (applied_run l.slot l.candidate) (first_pages l.candidate.share l.runs);
  end : end_or l.end (first_pages l.wanted (drop l.run-index l.runs)) ≡ end_of_runs (first_pages l.candidate.share l.runs);
  choices : l.applied.choices ≡ l.fn.applied.choices;
  cap : l.applied.cap ≡ l.fn.applied.cap;
  few : length l.applied.runs ≤ length l.fn.applied.runs + l.run-index;
}
