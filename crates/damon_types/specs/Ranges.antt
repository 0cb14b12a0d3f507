-- Lists of ranges, as contracts see them.
use Rattle.std.specs.Prelude.{ℕ, ◌+◌, ◌≤◌, ◌<◌, ◌^◌, Bool, ◌&&◌, nat_le, nat_lt, List, [], ◌∷◌, length, sum_by, Option, Some, None, if◌then◌else◌}
use Rattle.damon_types.specs.declared.range.Range.{Range}

-- the ranges of a list, and how many fit in all
pub record RangeList : Type 0 where
  pub list : List Range
  pub cap : ℕ

-- the page after the last one
abbrev pub end_of : Range → ℕ
end_of g = g.first + g.pages

-- a range that has a page and ends before page 2^32
pub record IsRange (g : Range) : Type 0 where
  pub pages : 1 ≤ g.pages
  pub end : end_of g < 2 ^ 32

-- ranges without overlap, by target and then by address, that begin at or after this page, in this target or a later one
abbrev pub OrderedFrom : ℕ → ℕ → List Range → Type 0
OrderedFrom target page [] = Unit {0}
OrderedFrom target page (g ∷ gs) =
    (target ≤ g.target) × (page ≤ g.first) × IsRange g × OrderedFrom g.target (end_of g) gs

-- ranges without overlap, by target and then by address
abbrev pub InOrder : List Range → Type 0
InOrder gs = OrderedFrom 0 0 gs

-- the range comes after the last of the list
abbrev pub Follows : List Range → Range → Type 0
Follows [] g = Unit {0}
Follows (h ∷ []) g = (h.target ≤ g.target) × (end_of h ≤ g.first)
Follows (h ∷ i ∷ hs) g = Follows (i ∷ hs) g

-- the number of pages of all ranges
abbrev pub page_total : List Range → ℕ
page_total gs = sum_by (λ g. g.pages) gs

-- ranges in order, with room for `cap` of them in a vector of capacity `space`
pub record IsRangeList (gs : List Range) (cap space : ℕ) : Type 0 where
  pub order : InOrder gs
  pub room : length gs ≤ cap
  pub small : cap < 2 ^ 32
  pub reserved : cap ≤ space

-- whether the range holds the page
abbrev pub holds_page : ℕ → Range → Bool
holds_page page g = nat_le g.first page && nat_lt page (end_of g)

-- the class of the range that holds the page
abbrev pub class_of : List Range → ℕ → Option ℕ
class_of [] page = None
class_of (g ∷ gs) page = if holds_page page g then Some g.class else class_of gs page
