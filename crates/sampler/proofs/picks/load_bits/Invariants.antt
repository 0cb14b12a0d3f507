use Rattle.std.proofs.Common.{◌≡◌, ◌-◌, ◌≤◌}
use Rattle.sampler.specs.Loaded.{loaded_bits, loaded_hits}
use Rattle.sampler.proofs.picks.load_bits.Given as goal

abbrev pub invariant-loop-index : goal.invariant-loop-index
invariant-loop-index g l = record {
  bits : l.bits ≡ loaded_bits (g.M.Marks.marks_of l.marks) l.pages l.from (l.index - l.from) l.fn.bits;
  hits : l.hits ≡ loaded_hits (g.M.Marks.marks_of l.marks) l.pages l.from (l.index - l.from);
  few : l.hits ≤ l.index - l.from;
}
