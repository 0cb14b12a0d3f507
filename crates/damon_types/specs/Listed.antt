-- Lists that grow, as contracts see them.
use Rattle.std.specs.Prelude.{ℕ, ◌-◌, ◌^◌, List, min}

-- the items of a list, and how many more fit without an allocation
pub record Listed (T : Type 0) : Type 0 where
  pub list : List T
  pub spare : ℕ

-- how many more items fit into this many places, where a list has at most 2^32 - 1 items
abbrev pub spare_of : ℕ → ℕ → ℕ
spare_of places items = min places (2 ^ 32 - 1) - items
