-- Sets of pages of a space, or of other numbers below a bound: for each, whether the set has it.
use Rattle.std.specs.Prelude.{ℕ, Bool, false, List, length, map, slice_index_or, if◌then◌else◌}
use Rattle.std.specs.List.{range_with_len}
use Rattle.page_bits.specs.Bits.{bit_in}
use Rattle.page_bits.specs.Runs.{bit_after, in_run}

-- for each page of a space of this many pages, whether the test holds
abbrev pub each_page : ℕ → (ℕ → Bool) → List Bool
each_page pages test = map test (range_with_len 0 pages)

-- a set once it has all pages of a run, or none of them
abbrev pub with_run : ℕ → ℕ → Bool → List Bool → List Bool
with_run start pages now set = each_page (length set) (λ page. if in_run start pages page then now else slice_index_or set page false)

-- a set once these bits say for the pages from `start` on, in order, whether it has them
abbrev pub with_each : ℕ → List Bool → List Bool → List Bool
with_each start bits set = each_page (length set) (λ page. bit_after start bits page (slice_index_or set page false))

-- the set of this many pages whose bits are 1
abbrev pub bits_of : ℕ → List ℕ → List Bool
bits_of pages words = each_page pages (bit_in words)
