-- The pages of a row, and where filters may begin or cease to apply among them. For proofs alone; `Passes` says which pages
-- pass.
use Rattle.std.specs.Prelude.{◌≡◌, ℕ, Bool, not, ◌+◌, ◌-◌, ◌*◌, ◌≤◌, ◌<◌, min, nat_lt, List, [], ◌∷◌, ◌++◌, if◌then◌else◌}
use Rattle.std.specs.Int.{div_ceil}
use Rattle.damon_types.specs.declared.filter.Filter.{Filter}
use Rattle.damon_types.specs.declared.filter.FilterKind.{FilterKind}
use Rattle.damon_types.specs.declared.filter.FilterKind.TheVariants.{Addr, Target, Class}
use Rattle.damon_types.specs.declared.space.TheConstants.{ADDRESS_END, PAGE_SIZE}
use Rattle.damon_types.specs.declared.space.Place.{Place}
use Rattle.scheme_filter.specs.declared.row_pages.RowPages.{RowPages}
use Rattle.scheme_filter.specs.Passes.{answer}

-- pages in order, the first of which has an address within the limit of targets
pub record IsRowPages (row : RowPages) : Type 0 where
  pub order : row.start ≤ row.end
  pub addr : row.first.addr < ADDRESS_END

-- the place of a page of the row
abbrev pub place_at : RowPages → ℕ → Place
place_at row page = record row.first { addr = row.first.addr + PAGE_SIZE * (page - row.start) }

-- the answer of filters for a page of the row
abbrev pub answer_at : List Filter → RowPages → ℕ → Bool
answer_at fs row page = answer fs (place_at row page) row.class

-- page `to` is the first page at or after page `from` with the wanted answer, or the end of the row
pub record IsFirstWith (fs : List Filter) (row : RowPages) (wanted : Bool) (from to : ℕ) : Type 0 where
  pub low : from ≤ to
  pub high : to ≤ row.end
  pub others : (p : ℕ) → from ≤ p → p < to → answer_at fs row p ≡ not wanted
  pub found : to < row.end → answer_at fs row to ≡ wanted

-- the first page of the row whose address is not below this one, or the end of the row
abbrev pub page_from : RowPages → ℕ → ℕ
page_from row addr = row.start + min (div_ceil (addr - row.first.addr) PAGE_SIZE) (row.end - row.start)

-- the pages at which a filter of this kind may begin or cease to apply
abbrev pub kind_changes : RowPages → FilterKind → List ℕ
kind_changes row (Addr from to) = page_from row from ∷ page_from row to ∷ []
kind_changes row (Target target) = []
kind_changes row (Class class) = []

-- the same of filters
abbrev pub changes : RowPages → List Filter → List ℕ
changes row [] = []
changes row (f ∷ fs) = kind_changes row f.kind ++ changes row fs

-- the lesser of page `next` and a page after page `at`
abbrev pub nearer : ℕ → ℕ → ℕ → ℕ
nearer at page next = if nat_lt at page then min page next else next

-- the first of these pages after page `at`, and at most page `end`
abbrev pub first_after : ℕ → ℕ → List ℕ → ℕ
first_after at end [] = end
first_after at end (p ∷ ps) = first_after at (nearer at p end) ps

-- how many of these pages are after page `at`
abbrev pub count_after : ℕ → List ℕ → ℕ
count_after at [] = 0
count_after at (p ∷ ps) = (if nat_lt at p then 1 else 0) + count_after at ps

-- fewer changes are still to come after page `to`, unless it is page `from` or the end of the row
abbrev pub PassesChange : List Filter → RowPages → ℕ → ℕ → Type 0
PassesChange fs row from to = from < to → to < row.end → count_after to (changes row fs) < count_after from (changes row fs)
