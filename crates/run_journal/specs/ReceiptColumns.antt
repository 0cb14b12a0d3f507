-- The receipts of a worker in columns: one list of numbers for each part, where a tag is in quarters of 16 bits.
use Rattle.std.specs.Prelude.{◌≡◌, ℕ, ◌+◌, ◌*◌, ◌^◌, ◌<◌, ◌≤◌, List, [], ◌∷◌, drop, length, slice_index}
use Rattle.run_journal.specs.declared.entry.Receipt.{Receipt}

-- the quarters of tags, the lowest first; one that is not there is 0
pub record Quarters : Type 0 where
  pub first : List ℕ
  pub second : List ℕ
  pub third : List ℕ
  pub fourth : List ℕ

-- the tag with this index
abbrev pub tag_at : Quarters → ℕ → ℕ
tag_at q i =
    slice_index q.first i + 2 ^ 16 * slice_index q.second i + 2 ^ 32 * slice_index q.third i + 2 ^ 48 * slice_index q.fourth i

-- the quarters of all tags but the first
abbrev pub behind : Quarters → Quarters
behind q = record { first = drop 1 q.first; second = drop 1 q.second; third = drop 1 q.third; fourth = drop 1 q.fourth }

-- the receipts of these columns: receipt i has page i and tag i
abbrev pub receipts_in : List ℕ → Quarters → List Receipt
receipts_in [] q = []
receipts_in (page ∷ pages) q = record { page = page; tag = tag_at q 0 } ∷ receipts_in pages (behind q)

-- each receipt has a first quarter, and there are no more others than receipts
pub record AreReceiptColumns (pages : List ℕ) (q : Quarters) : Type 0 where
  pub first : length q.first ≡ length pages
  pub second : length q.second ≤ length pages
  pub third : length q.third ≤ length pages
  pub fourth : length q.fourth ≤ length pages

-- There is room for this many more receipts in each column of `count` receipts, which with them are fewer than 2^32.
pub record HaveRoom (count pages firsts seconds thirds fourths room : ℕ) : Type 0 where
  pub few : count + room < 2 ^ 32
  pub page : count + room ≤ pages
  pub first : count + room ≤ firsts
  pub second : count + room ≤ seconds
  pub third : count + room ≤ thirds
  pub fourth : count + room ≤ fourths
