-- Internal to the proofs: results that are kept as bits, 64 in each word.
use Rattle.std.specs.Prelude.{◌≡◌, ◌==◌, ℕ, ◌+◌, ◌-◌, ◌*◌, ◌/◌, ◌%◌, ◌≤◌, Bool, false, List, drop, length, map, slice_index, take}
use Rattle.std.specs.Int.{bit_at}
use Rattle.std.specs.List.{range_with_len}
use Rattle.run_journal.specs.declared.bits.BitPlace.{BitPlace}

-- whether bit i of the words is 1
abbrev pub bit_in : List ℕ → ℕ → Bool
bit_in words i = bit_at (slice_index words (i / 64)) (i % 64) == 1

-- the first n bits of the words
abbrev pub bits_in : ℕ → List ℕ → List Bool
bits_in n words = map (bit_in words) (range_with_len 0 n)

-- how many bits are used, where some of the last word are free
abbrev pub used_bits : List ℕ → ℕ → ℕ
used_bits words free = 64 * length words - free

-- the bits that are used
abbrev pub packed_bits : List ℕ → ℕ → List Bool
packed_bits words free = bits_in (used_bits words free) words

-- no more bits are free than a word has, and all of them are 0
pub record ArePacked (words : List ℕ) (free : ℕ) : Type 0 where
  pub few : free ≤ 64
  pub some : free ≤ 64 * length words
  pub zeros : (i : ℕ) → used_bits words free ≤ i → bit_in words i ≡ false

-- the index of a place
abbrev pub place_of : BitPlace → ℕ
place_of p = 64 * p.word + p.bit

-- this many results from a place on
abbrev pub run_of : List Bool → BitPlace → ℕ → List Bool
run_of results start count = take count (drop (place_of start) results)
