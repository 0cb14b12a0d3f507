-- The random words of a seed.
use Rattle.std.specs.Prelude.{ℕ}
use Rattle.rand_core.specs.Steps.{stream_of, steps_u32}
use Rattle.rand_core.specs.Stream.{Stream}
use Rattle.rand_pcg.specs.Lcg.{Lcg, increment_of, started}
use Rattle.rand_pcg.specs.Pcg.{multiplier_64, pcg32}

-- the generator of a seed: it starts from the seed on stream 54
abbrev pub seeded : ℕ → Lcg
seeded seed = started 64 multiplier_64 seed (increment_of 64 54)

-- all random words that a generator still gives
abbrev pub words_from : Lcg → Stream
words_from g = stream_of (steps_u32 pcg32) g
