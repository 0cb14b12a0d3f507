-- The limits of attributes.
use Rattle.std.specs.Prelude.{◌≤◌, ◌&&◌, nat_lt, nat_le, Result, Ok, Err, if◌then◌else◌}
use Rattle.damon_types.specs.declared.attrs.TheConstants.{MAX_AGGR, MIN_REGIONS}
use Rattle.damon_types.specs.declared.attrs.Attrs.{Attrs}
use Rattle.damon_types.specs.declared.attrs.AttrsFault.{AttrsFault}
use Rattle.damon_types.specs.declared.attrs.AttrsFault.TheVariants.{MinTooSmall, MinOverMax, AggrOutOfRange}

-- attributes within their limits
pub record IsAttrs (a : Attrs) : Type 0 where
  pub min : MIN_REGIONS ≤ a.min
  pub max : a.min ≤ a.max
  pub aggr_some : 1 ≤ a.aggr
  pub aggr_most : a.aggr ≤ MAX_AGGR

-- the first limit that attributes break, in the order of AttrsFault
abbrev pub checked_attrs : Attrs → Result (Unit {0}) AttrsFault
checked_attrs a =
    if nat_lt a.min MIN_REGIONS then Err (MinTooSmall a.min)
    else if nat_lt a.max a.min then Err (MinOverMax a.min a.max)
    else if nat_le 1 a.aggr && nat_le a.aggr MAX_AGGR then Ok tt
    else Err (AggrOutOfRange a.aggr)
