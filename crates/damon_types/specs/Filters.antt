-- How filters are held.
use Rattle.std.specs.Prelude.{◌≡◌, ℕ, ◌-◌, ◌≤◌, false, List, ◌++◌, length, take, replicate}
use Rattle.damon_types.specs.declared.filter.TheConstants.{MAX_FILTERS}
use Rattle.damon_types.specs.declared.filter.Filter.{Filter}
use Rattle.damon_types.specs.declared.filter.FilterKind.TheVariants.{Class}

-- the filter in an unused place
abbrev pub unused : Filter
unused = record { allow = false; matching = false; kind = Class 0 }

-- the filters, and unused places after them
abbrev pub padded : List Filter → List Filter
padded filters = filters ++ replicate (MAX_FILTERS - length filters) unused

-- the first `len` places hold filters, and the others are unused
pub record IsPadded (places : List Filter) (len : ℕ) : Type 0 where
  pub count : length places ≡ MAX_FILTERS
  pub few : len ≤ MAX_FILTERS
  pub rest : padded (take len places) ≡ places
