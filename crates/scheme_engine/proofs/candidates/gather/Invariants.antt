use Rattle.std.proofs.Common.{◌≡◌, ◌+◌, ◌≤◌, ◌-◌, length, take}
use Rattle.scheme_filter.specs.Passes.{passes}
use Rattle.scheme_filter.specs.RangeRuns.{AreRunsOf}
use Rattle.scheme_match.specs.Match.{is_match}
use Rattle.scheme_engine.specs.Candidates.{candidates_of, matching_rows}
use Rattle.scheme_engine.proofs.GatherLemmas.{seen}
use Rattle.scheme_engine.proofs.candidates.gather.Given as goal

abbrev pub invariant-parts : goal.invariant-parts
invariant-parts l = record {
  within : l.from ≤ length l.regions.rows;
  long : length l.found ≡ 64;
  list : l.candidates.list ≡ candidates_of l.served.space.now l.regions.ranges l.served.aggr l.served.scheme.now (take l.from l.regions.rows);
  cap : l.candidates.cap ≡ l.fn.candidates.cap;
  tried : l.tried ≡ matching_rows l.served.scheme.now (take l.from l.regions.rows);
  near : AreRunsOf (passes l.served.scheme.now.filters l.served.space.now l.scoring.ranges.now.list) l.near;
  few : l.tried ≤ l.from;
}

abbrev pub decreases-parts : goal.decreases-parts
decreases-parts l = length l.regions.rows - l.from

abbrev pub invariant-loop-k : goal.invariant-loop-k
invariant-loop-k l = record {
  list : l.candidates.list ≡ candidates_of l.served.space.now l.regions.ranges l.served.aggr l.served.scheme.now (take (l.from + l.k) (seen (is_match l.served.scheme.now.pattern) l.regions.rows l.from (l.to - l.from)));
  cap : l.candidates.cap ≡ l.fn.candidates.cap;
  near : AreRunsOf (passes l.served.scheme.now.filters l.served.space.now l.scoring.ranges.now.list) l.near;
}
