-- Runs of pages, and runs of bits that are set or cleared.
use Rattle.std.specs.Prelude.{◌≡◌, ℕ, ◌+◌, ◌-◌, ◌≤◌, Bool, false, not, ◌&&◌, nat_le, nat_lt, List, length, count_by, slice_index_or, if◌then◌else◌}
use Rattle.std.specs.List.{range_with_len}
use Rattle.page_bits.specs.Bits.{bit_in}

-- whether a run of `pages` pages from `start` on has this page
abbrev pub in_run : ℕ → ℕ → ℕ → Bool
in_run start pages page = nat_le start page && nat_lt page (start + pages)

-- for how many of the first `pages` pages the test holds
abbrev pub count_pages : ℕ → (ℕ → Bool) → ℕ
count_pages pages test = count_by test (range_with_len 0 pages)

-- whether a bit is not this one
abbrev pub differs : Bool → Bool → Bool
differs now bit = if now then not bit else bit

-- The bits of a run are all `now`, and `changed` of them were not so before: counted over any number of pages that has the run.
pub record IsRunPut (old new : List ℕ) (start pages : ℕ) (now : Bool) (changed : ℕ) : Type 0 where
  pub len : length new ≡ length old
  pub bits : (p : ℕ) → bit_in new p ≡ (if in_run start pages p then now else bit_in old p)
  pub count : (n : ℕ) → start + pages ≤ n → changed ≡ count_pages n (λ p. in_run start pages p && differs now (bit_in old p))

-- the bit of a page that was `old`, once the pages from `start` on have these bits, in order
abbrev pub bit_after : ℕ → List Bool → ℕ → Bool → Bool
bit_after start bits page old = if in_run start (length bits) page then slice_index_or bits (page - start) false else old
