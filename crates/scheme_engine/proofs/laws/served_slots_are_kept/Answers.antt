use Rattle.scheme_engine.proofs.SlotLemmas.{counts_fit, slots_begun, slots_bounded, slots_counts, slots_length, slots_some, slots_space, slots_sum, slots_tiled, slots_windows, slots_within}
use Rattle.scheme_engine.proofs.laws.served_slots_are_kept.Goals as goal

pub returns : goal.returns
returns c = record {
  tiled = slots_tiled;
  some = slots_some;
  counts = slots_counts;
  length = slots_length;
  windows = slots_windows;
  begun = slots_begun;
  sum = slots_sum;
  within = slots_within;
  space = slots_space;
  bounded = slots_bounded;
  fits = counts_fit;
}
