use Rattle.std.proofs.Common.{◌≡◌, ℕ, ◌-◌, ◌≤◌, vec_len}
use Rattle.std.specs.Prelude.{slice_index, vec_capacity}
use Rattle.run_journal.proofs.receipt_list.keep_quarter.Given as goal

abbrev pub invariant-zeros : goal.invariant-zeros
invariant-zeros l = record {
  others : (i : ℕ) → slice_index l.quarters.items i ≡ slice_index l.fn.quarters.items i;
  few : vec_len l.quarters ≤ l.index;
  room : vec_capacity l.quarters ≡ vec_capacity l.fn.quarters;
}

abbrev pub decreases-zeros : goal.decreases-zeros
decreases-zeros l = l.index - vec_len l.quarters
