-- Random words by their places in a stream. Only proofs need this file.
use Rattle.std.specs.Prelude.{◌≡◌, ℕ, ◌≤◌, ◌<◌, List, slice_index}
use Rattle.rand_core.specs.Stream.{Stream, next_u32}
use Rattle.sampler.specs.Draws.{drawn_rest}

-- the random word at a place of a stream
abbrev pub word_at : Stream → ℕ → ℕ
word_at s p = (next_u32 (drawn_rest p s)).0

-- the words from place `from` to before place `to` are the random words at these places
abbrev pub AreDrawn : Stream → List ℕ → ℕ → ℕ → Type 0
AreDrawn s words from to = (p : ℕ) → from ≤ p → p < to → slice_index words p ≡ word_at s p
