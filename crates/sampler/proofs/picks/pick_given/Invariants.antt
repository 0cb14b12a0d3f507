use Rattle.std.proofs.Common.{◌≡◌, length, take}
use Rattle.sampler.specs.Pick.{picks_of}
use Rattle.sampler.proofs.picks.pick_given.Given as goal

abbrev pub invariant-loop-index : goal.invariant-loop-index
invariant-loop-index l = record {
  pages : take l.index l.pages ≡ picks_of (take l.index l.regions.rows) l.words;
  each : length l.pages ≡ length l.regions.rows;
}
