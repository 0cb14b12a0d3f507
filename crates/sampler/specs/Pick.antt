-- The pages that a pass checks.
use Rattle.std.specs.Prelude.{◌≡◌, ℕ, ◌+◌, ◌%◌, ◌≤◌, ◌<◌, ◌^◌, Bool, List, [], ◌∷◌, length, map}
use Rattle.damon_types.specs.declared.row.Row.{Row}

-- these are the first pages and the numbers of pages of the rows
pub record ArePlacesOf (rows : List Row) (starts sizes : List ℕ) : Type 0 where
  pub start : starts ≡ map (λ r. r.start) rows
  pub size : sizes ≡ map (λ r. r.pages) rows

-- one pick for each row and its word: the page that comes as far after the row's first page as the word says modulo the row's pages
abbrev pub picks_of : List Row → List ℕ → List ℕ
picks_of [] ws = []
picks_of (r ∷ rs) [] = []
picks_of (r ∷ rs) (w ∷ ws) = (r.start + w % r.pages) ∷ picks_of rs ws

-- the pages of a pass, whether the check of each was a hit, and how many fit
pub record PickList : Type 0 where
  pub pages : List ℕ
  pub bits : List Bool
  pub cap : ℕ

-- each page has a bit, and there is room for both, and for reciprocals; passes since a renewal are few
pub record IsPickList (pages : List ℕ) (bits : List Bool) (cap page_room bit_room reciprocals passes : ℕ) : Type 0 where
  pub same : length bits ≡ length pages
  pub room : length pages ≤ cap
  pub small : cap < 2 ^ 32
  pub pages_reserved : cap ≤ page_room
  pub bits_reserved : cap ≤ bit_room
  pub reciprocals_kept : cap ≤ reciprocals
  pub few_passes : passes < 2 ^ 16
