use Rattle.std.proofs.Common.{◌≡◌, ◌≤◌, ◌*◌, take}
use Rattle.std.specs.Prelude.{sum_by}
use Rattle.priority.proofs.ThresholdLemmas.{IsLatestOf, with_score}
use Rattle.priority.proofs.threshold.last_within.Given as goal

abbrev pub invariant-loop-candidate : goal.invariant-loop-candidate
invariant-loop-candidate l = record {
  latest : IsLatestOf l.cut (take l.candidate-index l.items) l.last;
  used : l.used ≡ sum_by (with_score l.cut) (take l.candidate-index l.items);
  most : l.used ≤ l.candidate-index * 4294967295;
}
