-- The ranges that range specs stand for.
use Rattle.std.specs.Prelude.{◌≡◌, ℕ, ◌+◌, ◌-◌, ◌*◌, ◌/◌, ◌%◌, ◌<◌, ◌≤◌, List, map, slice_get, slice_index, Some}
use Rattle.damon_types.specs.declared.space.TheConstants.{PAGE_SIZE}
use Rattle.damon_types.specs.declared.space.Target.{Target}
use Rattle.damon_types.specs.declared.range.Range.{Range}
use Rattle.damon_types.specs.declared.range.RangeSpec.{RangeSpec}
use Rattle.damon_types.specs.Space.{offset}

-- the whole pages from the first address of a spec to its last
abbrev pub page_count : RangeSpec → ℕ
page_count s = (s.to - s.from) / PAGE_SIZE

-- the pages of a spec, as they are numbered in the space; they begin as far from their target's first page as the spec from its base
abbrev pub range_of : List Target → RangeSpec → Range
range_of ts s = record {
  target = s.target;
  first = offset ts s.target + (s.from - slice_index (map (λ t. t.base) ts) s.target) / PAGE_SIZE;
  pages = page_count s;
  class = s.class;
}

-- the ranges of the specs
abbrev pub ranges_of : List Target → List RangeSpec → List Range
ranges_of ts specs = map (range_of ts) specs

-- the spec has at least one page, whole pages only, and they lie in a target of the space
pub record IsPlaced (ts : List Target) (s : RangeSpec) : Type 0 where
  pub place : Target
  pub there : slice_get ts s.target ≡ Some place
  pub begins : s.from % PAGE_SIZE ≡ 0
  pub ends : s.to % PAGE_SIZE ≡ 0
  pub some : s.from < s.to
  pub low : place.base ≤ s.from
  pub high : s.to ≤ place.base + PAGE_SIZE * place.pages
