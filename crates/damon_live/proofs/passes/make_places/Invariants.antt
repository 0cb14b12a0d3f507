use Rattle.std.proofs.Common.{◌≡◌, length}
use Rattle.std.specs.Prelude.{vec_capacity}
use Rattle.damon_live.proofs.passes.make_places.Given as goal

abbrev pub invariant-more : goal.invariant-more
invariant-more l = record {
  len : length l.hits.items ≡ l.counter;
  room : vec_capacity l.hits ≡ vec_capacity l.fn.hits;
}
