-- How the check of a list relates to the ranges that are made.
use Rattle.std.specs.Prelude.{◌≡◌, ℕ, ◌≤◌, List, length, All, Ok}
use Rattle.damon_types.specs.declared.space.Target.{Target}
use Rattle.damon_types.specs.declared.range.RangeSpec.{RangeSpec}
use Rattle.damon_types.specs.Ranges.{InOrder}
use Rattle.damon_types.specs.Space.{IsSpace}
use Rattle.damon_types.specs.Within.{AreWithin}
use Rattle.target_ranges.specs.Checked.{checked_ranges}
use Rattle.target_ranges.specs.Made.{ranges_of}

-- specs that are accepted make ranges in order
abbrev pub MakesInOrder : Type 0
MakesInOrder =
    (ts : List Target) (unit cap : ℕ) (specs : List RangeSpec) → IsSpace ts
    → checked_ranges ts unit cap specs ≡ Ok tt → InOrder (ranges_of ts specs)

-- there are as many ranges as specs
abbrev pub MakesEach : Type 0
MakesEach = (ts : List Target) (specs : List RangeSpec) → length (ranges_of ts specs) ≡ length specs

-- each range of specs that are accepted has at least `unit` pages
abbrev pub MakesWide : Type 0
MakesWide =
    (ts : List Target) (unit cap : ℕ) (specs : List RangeSpec) → checked_ranges ts unit cap specs ≡ Ok tt
    → All (λ g. unit ≤ g.pages) (ranges_of ts specs)

-- each range of specs that are accepted lies in its target
abbrev pub MakesWithin : Type 0
MakesWithin =
    (ts : List Target) (unit cap : ℕ) (specs : List RangeSpec) → checked_ranges ts unit cap specs ≡ Ok tt
    → AreWithin ts (ranges_of ts specs)
